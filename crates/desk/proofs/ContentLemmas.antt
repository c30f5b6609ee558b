-- The ROA content of an authorization: its entries, which rise already.
use Rattle.desk.proofs.Vocabulary.{◌≡◌, true, List, [], ◌∷◌, length, Result, Ok, Err, refl, sym, ap, ◌∙◌, arith, ◌↔◌, IsPermutation, IsSome, IfSome, IfOk, IfErr, list_all, false≢true, RoaPrefix, AreEntries, Rise, fit_lengths, Auth}
use Rattle.std.specs.Ordering.{nat_cmp, ordering_then}
use Rattle.std.specs.Result.{result_ok}
use Rattle.addr.specs.declared.asn.Asn.{Asn}
use Rattle.roa.proofs.RisingEntries.{at_most_once, one_order}
use Rattle.roa.specs.RoaContent.{RouteOriginAttestation, IsContent, IsLowestFault, Rises, is_in_range}
use Rattle.roa.specs.declared.content.ContentFault.{ContentFault}
use Rattle.roa.specs.declared.content.ContentFault.TheVariants.{Empty, TooMany, MaxLength, Repeated}
use Rattle.desk.specs.ContentText.{attestation_of}

-- entries that rise by prefix rise as those of a content
entries_rise : (es : List RoaPrefix) → Rise es → Rises es
entries_rise [] rising = tt
entries_rise (d ∷ []) rising = tt
entries_rise (d ∷ e ∷ es) rising = (ap (λ o. ordering_then o (nat_cmp d.max e.max)) rising.0, entries_rise (e ∷ es) rising.1)

-- the one fault of the entries of an authorization is a maxLength
one_fault : (es : List RoaPrefix) (fault : ContentFault) → AreEntries es → IsLowestFault es fault
    → fit_lengths es ≡ true → ⊥
one_fault es Empty are is fits =
    let none : length es ≡ 0 = ap length is in
    omega (arith, are.number.0, none)
one_fault es TooMany are is fits = omega (arith, are.number.1, is)
one_fault es MaxLength are is fits = false≢true (sym is.1 ∙ fits)
one_fault es Repeated are is fits = omega (arith, at_most_once is.2 es (entries_rise es are.rising), is.3)

-- a content with these parts
made : Asn → List RoaPrefix → RouteOriginAttestation
made asn entries = record { asn = asn; entries = entries }

-- what is made of the terms is their content, and it is made exactly where their maxLengths fit
pub content_found : (x : Auth) (entries : List RoaPrefix) (r : Result RouteOriginAttestation ContentFault)
    → AreEntries x.entries → entries ≡ x.entries
    → IfOk r (λ content. content.asn ≡ x.asn) → IfOk r (λ content. IsPermutation entries content.entries) → IfOk r IsContent
    → IfErr r (IsLowestFault entries)
    → (IsSome (result_ok r) ↔ (fit_lengths x.entries ≡ true)) × IfSome (result_ok r) (λ content. content ≡ attestation_of x)
unfolding made
content_found x entries (Ok content) are all asn moved is fault =
    let one : content.entries ≡ x.entries =
    one_order x.entries content.entries (rw all at moved) (entries_rise x.entries are.rising) is.entries.rising in
    let fits = ap (list_all is_in_range) (sym one) ∙ is.entries.in_range in
    ((λ _. fits, λ _. refl), ap (λ a. made a content.entries) asn ∙ ap (made x.asn) one)
content_found x entries (Err fault) are all asn moved is of =
    ((λ some. absurd (false≢true some), λ fits. absurd (one_fault x.entries fault are (rw all at of) fits)), tt)
