use Rattle.requests.proofs.Vocabulary.{refl, length-map, mapped-unless, fault_order}
use Rattle.json_values.proofs.TreeLemmas.{list_of-items_view}
use Rattle.requests.proofs.request.lists.items_in.Goals as goal

pub returns : goal.returns
returns g c =
    rw (
      c.unless.ensures,
      mapped-unless fault_order (λ v. v.items) c.in_ok-items.items c.count_of.result,
      c.in_ok-items.ensures,
      c.count_of.ensures,
      c.as_slice.ensures.value,
      ← c.in-Some.ensures,
      ← c.in-Some-as_array.ensures,
      list_of-items_view c.in-Some-as_array.values.now.items,
      length-map,
      c.len.ensures,
      ← c.as_slice.ensures.len,
      c.as_slice.ensures.value,
    ) refl
