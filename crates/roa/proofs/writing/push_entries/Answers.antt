use Rattle.roa.proofs.Vocabulary.{◌≡◌, ◌++◌, ℕ, List, arith, sym, ap, ◌∙◌, bit_string, max_length, element, entry_octets}
use Rattle.roa.proofs.Sizes.{length-entry_contents}
use Rattle.roa.proofs.Written.{written_more, written_same}
use Rattle.roa.proofs.writing.push_entries.Goals as goal
use Rattle.roa.proofs.writing.push_entries.Goals.{then-is+in_ok-push_entry+in_ok-push_element, else-is}

pub push_element-requires : goal.push_element-requires
push_element-requires c =
    let written : c.push_entry.new.out.items ≡ c.clear.new.self.items ++ (bit_string c.entry-item.result.prefix.family c.entry-item.result.prefix.first c.entry-item.result.prefix.length ++ max_length c.entry-item.result.prefix.length c.entry-item.result.max) = c.in_ok-push_entry.ensures in
    rw (c.deref.ensures.value, written, c.clear.ensures.items)
    (omega (arith, length-entry_contents c.entry-item.result.prefix.family c.entry-item.result.prefix.first c.entry-item.result.prefix.length c.entry-item.result.max c.entry-item.result.prefix.length_fits))

pub loop-entry-preserved : goal.loop-entry-preserved
loop-entry-preserved c =
    elim c.if-is.branch [
      | then-is+in_ok-push_entry+in_ok-push_element w ↦
          let e = c.entry-item.result in
          let contents : w.deref.result.now ≡ bit_string c.entry-item.result.prefix.family c.entry-item.result.prefix.first c.entry-item.result.prefix.length ++ max_length c.entry-item.result.prefix.length c.entry-item.result.max =
          w.deref.ensures.value ∙ w.in_ok-push_entry.ensures ∙ ap (λ (x : List ℕ). x ++ (bit_string c.entry-item.result.prefix.family c.entry-item.result.prefix.first c.entry-item.result.prefix.length ++ max_length c.entry-item.result.prefix.length c.entry-item.result.max)) w.clear.ensures.items in
          let pushed : w.push_element.new.out.items ≡ c.loop-entry.out.items ++ entry_octets c.entry-item.result =
          w.in_ok-push_element.ensures ∙ ap (λ (x : List ℕ). c.loop-entry.out.items ++ element 48 x) contents in
          rw w.out-is (pushed ∙ written_more c.args.out.now.items c.loop-entry.out.items c.args.family c.args.entries.now c.loop-entry.entry-index c.entry-item.result c.loop-entry-test.true c.entry-item.is (sym c.is.ensures ∙ w.if-is.true) c.loop-entry.invariant)
      | else-is w ↦
          rw w.out-is (written_same c.args.out.now.items c.loop-entry.out.items c.args.family c.args.entries.now c.loop-entry.entry-index c.entry-item.result c.loop-entry-test.true c.entry-item.is (sym c.is.ensures ∙ w.if-is.false) c.loop-entry.invariant)
    ]
