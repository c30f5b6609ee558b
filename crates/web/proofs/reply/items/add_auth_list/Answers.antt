use Rattle.web.proofs.Vocabulary.{◌≡◌, ◌++◌, map, ◌∙◌, codes, auth_end, auth_start, comma_joined, entries_list, entry_text, added_then, auth_item, list_closing, list_opening, separator}
use Rattle.web.proofs.ReplyLemmas.{auth-parts}
use Rattle.web.proofs.reply.items.add_auth_list.Goals as goal

pub returns : goal.returns
returns g c =
    let opening = list_opening c.args.is_first c.args.auth.now in
    let items = comma_joined (map entry_text c.args.entries.now) in
    let closing = list_closing c.args.auth.now in
    let parts : auth_item c.args.is_first c.args.auth.now (entries_list c.args.entries.now) ≡ opening ++ (items ++ closing) =
    auth-parts (separator c.args.is_first) (auth_start c.args.auth.now) (codes "\"entries\":[") items (codes "]") (auth_end c.args.auth.now) in
    rw parts
    (added_then g.D.Drain.written g.D.Drain.has_failed c.args.pieces.now c.add.new.self c.add-2.new.self opening (items ++ closing)
    (rw (c.as_str.ensures.value ∙ c.list_opening.ensures) at c.add.ensures)
    (added_then g.D.Drain.written g.D.Drain.has_failed c.add.new.self c.add_items.new.pieces c.add-2.new.self items closing
    c.add_items.ensures (rw (c.as_str-2.ensures.value ∙ c.list_closing.ensures) at c.add-2.ensures)))
