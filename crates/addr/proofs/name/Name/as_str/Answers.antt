use Rattle.addr.proofs.NameLemmas.{name_utf8}
use Rattle.addr.proofs.name.Name.as_str.Goals as goal

pub unreachable-requires : goal.unreachable-requires
unreachable-requires c =
    c.in-Err.ensures.cases.0 (rw c.as_bytes.ensures.text (name_utf8 c.args.self.now c.as_bytes.ensures.is_name))
