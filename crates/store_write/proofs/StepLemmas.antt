-- What an edit of one table does to the rows of a holder.
use Rattle.store_write.proofs.Vocabulary.{◌≡◌, ◌⊎◌, inl, inr, ℕ, Bool, true, false, ◌==◌, List, [], ◌∷◌, map, IsPermutation, None, Some, Option, option_map, IsSome, refl, sym, ap, subst, eq-eqb, both_ways, list_any, Database, Row, Span, Granted, CharterSets, Rows, AllRows, EachHasEntries, HaveEntries, contents, is_table, schema_row, operator_row, prefix_cells, Edits, Part, part_rows, holder_part, holding_part, granted_part, claim_part, entry_part, HoldsPart, HoldsCharter, HoldsFiles, TablesHold, EditsRows, KeepsExceptions, at_holder, edited_have_entries, IsLocal, EditsPart, turned_at, part_same, part_turned, sound_still}

-- the parts have trees of their own
abbrev pub is_part_tree : ℕ → Bool
is_part_tree t = list_any (λ part. part.tree == t) (holder_part ∷ holding_part ∷ granted_part ∷ claim_part ∷ entry_part ∷ [])

module _ (tree : ℕ) (by : List Row → List Row) (old new : Database) (e : Edits tree by old new) (is : is_part_tree tree ≡ true) where
  -- a table that is no part stays where a part is edited
  tree_still : (t : ℕ) → is_table t ≡ true → is_part_tree t ≡ false → new.trees t ≡ old.trees t
  tree_still t table apart = e.others t table (λ same. both_ways _ (subst (λ k. is_part_tree k ≡ false) same apart) is)

  still : (t : ℕ) → is_table t ≡ true → is_part_tree t ≡ false → contents (old.trees t) ≡ contents (new.trees t)
  still t table apart = ap contents (sym (tree_still t table apart))

  charter_still : (charter : CharterSets) → HoldsCharter charter old.trees → HoldsCharter charter new.trees
  charter_still charter was = record {
    schema = subst (IsPermutation (schema_row ∷ [])) (still 0 refl refl) was.schema;
    operators = subst (IsPermutation (map operator_row charter.operators)) (still 2 refl refl) was.operators;
    pool = subst (IsPermutation (map prefix_cells charter.pool)) (still 4 refl refl) was.pool;
  }

-- A statement edits the table of one part. It turns the rows of a holder, where they are so, if this table's become those of the
-- part, and the other parts show no difference.
module _ (so : Option Rows → Type 0) (h : List ℕ) (to : Option Rows → Option Rows) (part : Part) where
  -- the part is the one that is edited, or shows no difference
  abbrev pub Follows : Part → Type 0
  Follows p = (p ≡ part) ⊎ (((p.tree == part.tree) ≡ false) × (is_table p.tree ≡ true) × ((o : Option Rows) → so o → part_rows p h o ≡ part_rows p h (to o)))

  abbrev pub AllFollow : Type 0
  AllFollow = Follows holder_part × Follows holding_part × Follows granted_part × Follows claim_part × Follows entry_part

  module _ (by : List Row → List Row) (old new : Database) (e : Edits part.tree by old new) (local : IsLocal part.place h by) (turns : (o : Option Rows) → so o → IsPermutation (part_rows part h (to o)) (by (part_rows part h o))) where
    turned_part : (p : Part) (rows : List ℕ → Option Rows) → so (rows h) → Follows p → HoldsPart p rows (contents (old.trees p.tree)) → HoldsPart p (turned_at h to rows) (contents (new.trees p.tree))
    turned_part p rows is (inl same) = subst (λ q. HoldsPart q rows (contents (old.trees q.tree)) → HoldsPart q (turned_at h to rows) (contents (new.trees q.tree))) (sym same)
        (λ holds. part_turned part rows h to by _ _ holds local e.rows (turns (rows h) is))
    turned_part p rows is (inr other) = λ holds.
        part_same p rows h to (contents (new.trees p.tree))
        (subst (λ t. HoldsPart p rows (contents t)) (sym (e.others p.tree other.1 (λ it. both_ways _ other.0 (rw it (eq-eqb part.tree part.tree refl))))) holds) (other.2 (rows h) is)

    pub turns_rows : is_part_tree part.tree ≡ true → AllFollow → ((rows : List ℕ → Option Rows) → HaveEntries rows → HaveEntries (turned_at h to rows))
        → (charter : CharterSets) (rows : AllRows) → TablesHold charter rows old.trees → so (rows.of_holder h) → KeepsExceptions charter (at_holder h to rows) old.trees new.trees
    turns_rows is parts entries_stay charter rows was is_so = record {
      held = record {
        charter_kept = charter_still part.tree by old new e is charter was.charter_kept;
        holders = turned_part holder_part rows.of_holder is_so parts.0 was.holders;
        holdings = turned_part holding_part rows.of_holder is_so parts.1 was.holdings;
        grants = turned_part granted_part rows.of_holder is_so parts.2 was.grants;
        claims = turned_part claim_part rows.of_holder is_so parts.3 was.claims;
        entries = turned_part entry_part rows.of_holder is_so parts.4 was.entries;
        have_entries = entries_stay rows.of_holder was.have_entries;
        unused = subst (λ rows. rows ≡ []) (still part.tree by old new e is 12 refl refl) was.unused;
        files = subst (HoldsFiles rows.files) (still part.tree by old new e is 15 refl refl) was.files;
        whole = sound_still part.tree by old new e was.whole;
      };
      exceptions = tree_still part.tree by old new e is 15 refl refl;
    }

-- an edit of the rows of a registered holder, in which authorizations keep their entries
module _ (h : List ℕ) (edit : Rows → Rows) (part : Part) where
  abbrev pub AllEdited : Type 0
  AllEdited = AllFollow IsSome h (option_map edit) part

  -- another part, in which the edit makes no difference
  pub leaves : (p : Part) → (p.tree == part.tree) ≡ false → is_table p.tree ≡ true → ((r : Rows) → p.rows h (edit r) ≡ p.rows h r) → Follows IsSome h (option_map edit) part p
  leaves p other is same = inr (other, is, go)
    where
      go : (o : Option Rows) → IsSome o → part_rows p h o ≡ part_rows p h (option_map edit o)
      go None some = refl
      go (Some r) some = sym (same r)

  pub edits_rows : (by : List Row → List Row) (old new : Database) → Edits part.tree by old new → IsLocal part.place h by → EditsPart part h edit by → is_part_tree part.tree ≡ true → AllEdited
      → ((r : Rows) → EachHasEntries r.auths → EachHasEntries (edit r).auths) → EditsRows h edit old new
  edits_rows by old new e local to is parts keeps = turns_rows IsSome h (option_map edit) part by old new e local go is parts (λ rows. edited_have_entries h edit rows keeps)
    where
      go : (o : Option Rows) → IsSome o → IsPermutation (part_rows part h (option_map edit o)) (by (part_rows part h o))
      go None some = absurd cc
      go (Some r) some = to r

-- each edit is of one part
module _ (h : List ℕ) where
  pub in_holder : (granted created : Rows → ℕ) → AllEdited h (λ r. record r { granted = granted r; created = created r }) holder_part
  in_holder granted created =
      let left = leaves h (λ r. record r { granted = granted r; created = created r }) holder_part in
      (inl refl, left holding_part refl refl (λ r. refl), left granted_part refl refl (λ r. refl), left claim_part refl refl (λ r. refl), left entry_part refl refl (λ r. refl))

  pub in_holdings : (f : Rows → List Span) → AllEdited h (λ r. record r { holdings = f r }) holding_part
  in_holdings f =
      let left = leaves h (λ r. record r { holdings = f r }) holding_part in
      (left holder_part refl refl (λ r. refl), inl refl, left granted_part refl refl (λ r. refl), left claim_part refl refl (λ r. refl), left entry_part refl refl (λ r. refl))

  pub in_grants : (f : Rows → List Granted) → AllEdited h (λ r. record r { grants = f r }) granted_part
  in_grants f =
      let left = leaves h (λ r. record r { grants = f r }) granted_part in
      (left holder_part refl refl (λ r. refl), left holding_part refl refl (λ r. refl), inl refl, left claim_part refl refl (λ r. refl), left entry_part refl refl (λ r. refl))
