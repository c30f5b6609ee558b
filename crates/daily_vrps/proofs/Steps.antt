-- What is put in, or taken out, in two steps.
use Rattle.daily_vrps.proofs.Vocabulary.{◌↔◌, ◌⊎◌, inl, inr}

-- in with P and then with Q, in with R
pub joined_more : {Was Mid Now P Q R Open : Type 0} → (R ↔ (P ⊎ Q)) → (Mid ↔ (Was ⊎ (P × Open))) → (Now ↔ (Mid ⊎ (Q × Open)))
    → Now ↔ (Was ⊎ (R × Open))
joined_more either before after = (
  λ now. elim (after.0 now) [
    | inl mid ↦ elim (before.0 mid) [ inl was ↦ inl was | inr one ↦ inr (either.1 (inl one.0), one.1) ]
    | inr other ↦ inr (either.1 (inr other.0), other.1)
  ],
  λ joined. after.1 (elim joined [
    | inl was ↦ inl (before.1 (inl was))
    | inr is ↦ elim (either.0 is.0) [ inl one ↦ inl (before.1 (inr (one, is.1))) | inr other ↦ inr (other, is.1) ]
  ]),
)

pub joined_same : {Was Now P Q Open : Type 0} → (P ↔ Q) → (Now ↔ (Was ⊎ (P × Open))) → Now ↔ (Was ⊎ (Q × Open))
joined_same same is = (
  λ now. elim (is.0 now) [ inl was ↦ inl was | inr one ↦ inr (same.0 one.0, one.1) ],
  λ joined. is.1 (elim joined [ inl was ↦ inl was | inr one ↦ inr (same.1 one.0, one.1) ]),
)

-- left without P and then without Q, left without R
pub left_more : {Was Mid Now P Q R Spared : Type 0} → (R ↔ (P ⊎ Q)) → (Mid ↔ (Was × ((¬ P) ⊎ Spared))) → (Now ↔ (Mid × ((¬ Q) ⊎ Spared)))
    → Now ↔ (Was × ((¬ R) ⊎ Spared))
left_more either before after = (
  λ now.
      let mid = after.0 now in
      let was = before.0 mid.0 in (
        was.0,
        elim was.1 [
          | inl none ↦ elim mid.1 [
            | inl other ↦ inl (λ is. elim (either.0 is) [ inl one ↦ none one | inr last ↦ other last ])
            | inr spared ↦ inr spared
          ]
          | inr spared ↦ inr spared
        ],
      ),
  λ left. after.1 (
    before.1 (left.0, elim left.1 [ inl none ↦ inl (λ one. none (either.1 (inl one))) | inr spared ↦ inr spared ]),
    elim left.1 [ inl none ↦ inl (λ other. none (either.1 (inr other))) | inr spared ↦ inr spared ],
  ),
)

pub left_same : {Was Now P Q Spared : Type 0} → (P ↔ Q) → (Now ↔ (Was × ((¬ P) ⊎ Spared))) → Now ↔ (Was × ((¬ Q) ⊎ Spared))
left_same same is = (
  λ now. let left = is.0 now in (left.0, elim left.1 [ inl none ↦ inl (λ one. none (same.1 one)) | inr spared ↦ inr spared ]),
  λ left. is.1 (left.0, elim left.1 [ inl none ↦ inl (λ one. none (same.0 one)) | inr spared ↦ inr spared ]),
)

-- added with P and then with Q, added with R
pub added_more : {Was Mid Now P Q R : Type 0} → (R ↔ (P ⊎ Q)) → (Mid ↔ (Was ⊎ P)) → (Now ↔ (Mid ⊎ Q)) → Now ↔ (Was ⊎ R)
added_more either before after = (
  λ now. elim (after.0 now) [
    | inl mid ↦ elim (before.0 mid) [ inl was ↦ inl was | inr one ↦ inr (either.1 (inl one)) ]
    | inr other ↦ inr (either.1 (inr other))
  ],
  λ added. after.1 (elim added [
    | inl was ↦ inl (before.1 (inl was))
    | inr is ↦ elim (either.0 is) [ inl one ↦ inl (before.1 (inr one)) | inr other ↦ inr other ]
  ]),
)
