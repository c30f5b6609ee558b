use Rattle.std.specs.Io.Buffered.{reader_remaining}
use Rattle.std.specs.Option.{option_and_then}
use Rattle.cli_tasks.proofs.serve.connections.answer_in_time.Given as goal

abbrev pub ghosts-answer_between : goal.ghosts-answer_between
ghosts-answer_between g a = record {
  remaining = reader_remaining (λ place. option_and_then (λ timed. g.P.Peer.remaining timed.peer.now) place.reader) a.from;
  contents = g.Q.Peer.contents a.to.peer.now;
}

abbrev pub ghosts-answer_between-2 : goal.ghosts-answer_between-2
ghosts-answer_between-2 g a = record {
  remaining = option_and_then (λ timed. g.P.Peer.remaining timed.peer.now) a.from.reader;
  contents = g.Q.Peer.contents a.to.peer.now;
}
