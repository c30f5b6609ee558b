-- A request has one reply on given entries.
use Rattle.std.proofs.Common.{◌≡◌, ℕ, List, Option, Some, None, IfSome, sym, ap, ◌∙◌, subst, filter, arith}
use Rattle.std.specs.Prelude.{◌↔◌, IsSome}
use Rattle.std.specs.Global.{Vec}
use Rattle.std.specs.String.{string_bytes}
use Rattle.std.proofs.lemmas.Bool.{false≢true, true≢false}
use Rattle.addr.specs.declared.route.Route.{Route}
use Rattle.registry.specs.declared.authorization.Auth.{Auth}
use Rattle.registry.specs.declared.charter.Charter.{Charter}
use Rattle.registry.specs.declared.command.Command.{Command}
use Rattle.registry.specs.declared.command.Command.TheVariants.{Import}
use Rattle.registry.specs.declared.command.Proposed.{Proposed}
use Rattle.registry.specs.declared.command.Query.TheVariants.{Show as ShowQuery, Content as ContentQuery, List as ListQuery, Payloads as PayloadsQuery, Validity as ValidityQuery, WhatIf as WhatIfQuery}
use Rattle.registry.specs.declared.grant.Access.TheVariants.{Look}
use Rattle.registry.specs.declared.rule.Rule.{Rule}
use Rattle.registry.proofs.Kept.{Keeps-unique}
use Rattle.registry.specs.Answer.{AreCounts, IsShown}
use Rattle.registry.specs.History.{History}
use Rattle.registry.specs.Permission.{is_permitted_terms}
use Rattle.registry.specs.Terms.{grant_terms, AreActive, HeldSinceMade, authorizations_made, authorization_terms}
use Rattle.registry.specs.Verdict.{auth_of_number, ShowVerdict, ListVerdict}
use Rattle.registry_laws.specs.OneOutcome.{OneHypotheticalOutcome, OneOutcome}
use Rattle.registry_laws.proofs.OneOutcome.{One, checked, accepted}
use Rattle.desk.specs.Answer.{AnswersCommand, AnswersShow, AnswersContent, AnswersList}
use Rattle.hex.specs.Hex.{encode_lower}
use Rattle.roa.specs.ContentOctets.{content_octets}
use Rattle.roa.specs.RoaContent.{RouteOriginAttestation, Encodes, IsContent}
use Rattle.desk.specs.ContentText.{attestation_of, IsContentText}
use Rattle.desk.specs.HolderAnswers.{deciding_entries, IsAnswerOn}
use Rattle.desk_laws.specs.OneReply.{SaySame, OneReply}
use Rattle.registry.specs.declared.asked.Request.{Request}
use Rattle.registry.specs.declared.asked.Request.TheVariants.{Command as CommandRequest, Query as QueryRequest}
use Rattle.desk.specs.declared.reply.Reply.{Reply}
use Rattle.desk.specs.declared.reply.Reply.TheVariants.{Done, Imported, Shown, Content, Listed, Report, Denied, Unavailable}
use Rattle.desk.proofs.HolderLemmas.{counts_of_import}

-- ---- verdicts

one_show : (history : History) (h : List ℕ) (day : ℕ) (caller : List ℕ) (n : ℕ) → One (ShowVerdict history h day caller n)
one_show history h day caller n = checked (checked accepted)

one_list : (history : History) (h : List ℕ) (day : ℕ) (caller : List ℕ) → One (ListVerdict history h day caller)
one_list history h day caller = checked accepted

none≢some : {r : Rule} {A : Type 0} → None ≡ Some r → A
none≢some same = absurd cc

denied : (r s : Rule) (row other : Option ℕ) → r ≡ s → row ≡ other → Denied r row ≡ Denied s other
denied r s row other rule place = cc

-- the denial of a query names no row
denied_whole : (r s : Rule) (row other : Option ℕ) → Some r ≡ Some s → row ≡ None → other ≡ None → Denied r row ≡ Denied s other
denied_whole r s row other rule left right = cc

-- ---- active authorizations

one_active : (history : History) (h : List ℕ) (xs ys : List Auth) → AreActive history h xs → AreActive history h ys → xs ≡ ys
one_active history h xs ys a b = Keeps-unique (HeldSinceMade history h) (authorization_terms history h) xs ys a b

one_shown : (history : History) (h : List ℕ) (day : ℕ) (caller : List ℕ) (n : ℕ) (x y : Auth) → IsShown history h day caller n x → IsShown history h day caller n y → x ≡ y
one_shown history h day caller n x y a b =
    let found : Some x ≡ Some y = sym a.1.2 ∙ ap (auth_of_number n) (one_active history h a.1.0 b.1.0 a.1.1 b.1.1) ∙ b.1.2 in
    cc

-- ---- replies

-- an import that leaves one history has its counts
one_count : (before : History) (command : Command) (after later : History) (made present more others : ℕ) → after ≡ later
    → AreCounts before command after made present → AreCounts before command later more others → Imported made present ≡ Imported more others
one_count before (Import h rows) after later made present more others same x y =
    let counted : authorizations_made after h ≡ authorizations_made later h = ap (λ (history : History). authorizations_made history h) same in
    let makes : made ≡ more = omega (arith, counted, x.0, y.0) in
    let leaves : present ≡ others = omega (arith, counted, x.0, x.1, y.0, y.1) in
    cc
one_count before command after later made present more others same x y = absurd x

one_of_command : OneOutcome → (charter : Charter) (history : History) (day : ℕ) (caller : List ℕ) (c : Command) (a b : Reply) (after later : History)
    → AnswersCommand charter history day caller c a after → AnswersCommand charter history day caller c b later → SaySame a b
one_of_command law charter history day caller c Unavailable b after later x y = tt
one_of_command law charter history day caller c (Done m) (Done n) after later x y = ap Done (x.2 ∙ sym y.2)
one_of_command law charter history day caller c (Done m) (Imported made present) after later x y =
    absurd (true≢false (sym (counts_of_import history c later made present y.1) ∙ x.0))
one_of_command law charter history day caller c (Done m) (Denied s row) after later x y = absurd ((law charter history day caller c).either after s row x.1 y.0)
one_of_command law charter history day caller c (Done m) Unavailable after later x y = tt
one_of_command law charter history day caller c (Done m) b after later x y = absurd y
one_of_command law charter history day caller c (Imported made present) (Done n) after later x y =
    absurd (true≢false (sym (counts_of_import history c after made present x.1) ∙ y.0))
one_of_command law charter history day caller c (Imported made present) (Imported more others) after later x y =
    one_count history c after later made present more others ((law charter history day caller c).left after later x.0 y.0) x.1 y.1
one_of_command law charter history day caller c (Imported made present) (Denied s row) after later x y = absurd ((law charter history day caller c).either after s row x.0 y.0)
one_of_command law charter history day caller c (Imported made present) Unavailable after later x y = tt
one_of_command law charter history day caller c (Imported made present) b after later x y = absurd y
one_of_command law charter history day caller c (Denied r row) (Done n) after later x y = absurd ((law charter history day caller c).either later r row y.1 x.0)
one_of_command law charter history day caller c (Denied r row) (Imported made present) after later x y = absurd ((law charter history day caller c).either later r row y.0 x.0)
one_of_command law charter history day caller c (Denied r row) (Denied s other) after later x y =
    let same = (law charter history day caller c).denied r s row other x.0 y.0 in
    denied r s row other same.0 same.1
one_of_command law charter history day caller c (Denied r row) Unavailable after later x y = tt
one_of_command law charter history day caller c (Denied r row) b after later x y = absurd y
one_of_command law charter history day caller c a b after later x y = absurd x

one_of_show : (history : History) (h : List ℕ) (day : ℕ) (caller : List ℕ) (n : ℕ) (a b : Reply)
    → AnswersShow history h day caller n a → AnswersShow history h day caller n b → SaySame a b
one_of_show history h day caller n Unavailable b x y = tt
one_of_show history h day caller n (Shown u) (Shown v) x y = ap Shown (one_shown history h day caller n u v x y)
one_of_show history h day caller n (Shown u) (Denied s row) x y = none≢some ((one_show history h day caller n).same None (Some s) x.0 y.0)
one_of_show history h day caller n (Shown u) Unavailable x y = tt
one_of_show history h day caller n (Shown u) b x y = absurd y
one_of_show history h day caller n (Denied r row) (Shown v) x y = none≢some ((one_show history h day caller n).same None (Some r) y.0 x.0)
one_of_show history h day caller n (Denied r row) (Denied s other) x y =
    denied_whole r s row other ((one_show history h day caller n).same (Some r) (Some s) x.0 y.0) x.1 y.1
one_of_show history h day caller n (Denied r row) Unavailable x y = tt
one_of_show history h day caller n (Denied r row) b x y = absurd y
one_of_show history h day caller n a b x y = absurd x

-- the octets of a content, of which there is one list
abbrev OneSpelling : Type 0
OneSpelling =
    (content : RouteOriginAttestation) (octets : List ℕ) → IsContent content → Encodes content octets ↔ (octets ≡ content_octets content)

one_text : OneSpelling → (x y : Auth) (text other : List ℕ) → x ≡ y → IsContentText x text → IsContentText y other → text ≡ other
one_text spelling x y text other same a b =
    let b' : IsContentText x other = subst (λ (auth : Auth). IsContentText auth other) (sym same) b in
    a.3 ∙ ap encode_lower ((spelling (attestation_of x) a.1 a.0).0 a.2 ∙ sym ((spelling (attestation_of x) b'.1 b'.0).0 b'.2)) ∙ sym b'.3

one_of_content : OneSpelling → (history : History) (h : List ℕ) (day : ℕ) (caller : List ℕ) (n : ℕ) (a b : Reply)
    → AnswersContent history h day caller n a → AnswersContent history h day caller n b → SaySame a b
one_of_content spelling history h day caller n Unavailable b x y = tt
one_of_content spelling history h day caller n (Content s) (Content t) x y =
    one_text spelling x.0 y.0 (string_bytes s) (string_bytes t) (one_shown history h day caller n x.0 y.0 x.1 y.1) x.2 y.2
one_of_content spelling history h day caller n (Content text) (Denied s row) x y = none≢some ((one_show history h day caller n).same None (Some s) x.1.0 y.0)
one_of_content spelling history h day caller n (Content text) Unavailable x y = tt
one_of_content spelling history h day caller n (Content text) b x y = absurd y
one_of_content spelling history h day caller n (Denied r row) (Content text) x y = none≢some ((one_show history h day caller n).same None (Some r) y.1.0 x.0)
one_of_content spelling history h day caller n (Denied r row) (Denied s other) x y =
    denied_whole r s row other ((one_show history h day caller n).same (Some r) (Some s) x.0 y.0) x.1 y.1
one_of_content spelling history h day caller n (Denied r row) Unavailable x y = tt
one_of_content spelling history h day caller n (Denied r row) b x y = absurd y
one_of_content spelling history h day caller n a b x y = absurd x

one_of_list : (history : History) (h : List ℕ) (day : ℕ) (caller : List ℕ) (a b : Reply)
    → AnswersList history h day caller a → AnswersList history h day caller b → SaySame a b
one_of_list history h day caller Unavailable b x y = tt
one_of_list history h day caller (Listed us) (Listed vs) x y =
    x.1.2 ∙ ap (filter (λ z. is_permitted_terms (grant_terms history h) day caller Look z)) (one_active history h x.1.0 y.1.0 x.1.1 y.1.1) ∙ sym y.1.2
one_of_list history h day caller (Listed us) (Denied s row) x y = none≢some ((one_list history h day caller).same None (Some s) x.0 y.0)
one_of_list history h day caller (Listed us) Unavailable x y = tt
one_of_list history h day caller (Listed us) b x y = absurd y
one_of_list history h day caller (Denied r row) (Listed vs) x y = none≢some ((one_list history h day caller).same None (Some r) y.0 x.0)
one_of_list history h day caller (Denied r row) (Denied s other) x y =
    denied_whole r s row other ((one_list history h day caller).same (Some r) (Some s) x.0 y.0) x.1 y.1
one_of_list history h day caller (Denied r row) Unavailable x y = tt
one_of_list history h day caller (Denied r row) b x y = absurd y
one_of_list history h day caller a b x y = absurd x

one_of_what_if : OneHypotheticalOutcome → (charter : Charter) (history : History) (day : ℕ) (caller h : List ℕ) (changes : Vec Proposed) (routes : Vec Route) (a b : Reply)
    → IsAnswerOn charter history day caller (QueryRequest (WhatIfQuery h changes routes)) a
    → IsAnswerOn charter history day caller (QueryRequest (WhatIfQuery h changes routes)) b → SaySame a b
one_of_what_if law charter history day caller h changes routes Unavailable b x y = tt
one_of_what_if law charter history day caller h changes routes (Report states) (Report others) x y = tt
one_of_what_if law charter history day caller h changes routes (Report states) (Denied s (Some place)) x y =
    absurd ((law charter day caller h history changes.items).either x.0 s place x.1 y.1.0)
one_of_what_if law charter history day caller h changes routes (Report states) (Denied s None) x y = absurd y.1.0
one_of_what_if law charter history day caller h changes routes (Report states) Unavailable x y = tt
one_of_what_if law charter history day caller h changes routes (Report states) b x y = absurd y.1.0
one_of_what_if law charter history day caller h changes routes (Denied r (Some place)) (Report states) x y =
    absurd ((law charter day caller h history changes.items).either y.0 r place y.1 x.1.0)
one_of_what_if law charter history day caller h changes routes (Denied r (Some place)) (Denied s (Some other)) x y =
    let same = (law charter day caller h history changes.items).denied r s place other x.1.0 y.1.0 in
    denied r s (Some place) (Some other) same.0 (ap Some same.1)
one_of_what_if law charter history day caller h changes routes (Denied r (Some place)) (Denied s None) x y = absurd y.1.0
one_of_what_if law charter history day caller h changes routes (Denied r (Some place)) Unavailable x y = tt
one_of_what_if law charter history day caller h changes routes (Denied r (Some place)) b x y = absurd y.1.0
one_of_what_if law charter history day caller h changes routes (Denied r None) b x y = absurd x.1.0
one_of_what_if law charter history day caller h changes routes a b x y = absurd x.1.0

-- ---- the entries that decide a request

abbrev AnswersOn : Charter → ℕ → List ℕ → Request → Reply → Option History → Type 0
AnswersOn charter day caller request reply entries = IfSome entries (λ some. IsAnswerOn charter some day caller request reply)

-- on each history there is one reply
abbrev OneOn : Charter → ℕ → List ℕ → Request → Reply → Reply → Type 0
OneOn charter day caller request a b =
    (history : History) → IsAnswerOn charter history day caller request a → IsAnswerOn charter history day caller request b → SaySame a b

one_on : (charter : Charter) (day : ℕ) (caller : List ℕ) (request : Request) (a b : Reply) (entries : Option History) → OneOn charter day caller request a b
    → IsSome entries → AnswersOn charter day caller request a entries → AnswersOn charter day caller request b entries → SaySame a b
one_on charter day caller request a b None one some x y = absurd (false≢true some)
one_on charter day caller request a b (Some entries) one some x y = one entries x y

-- the same, of two histories that agree on them
agreed : (charter : Charter) (one other : History) (day : ℕ) (caller : List ℕ) (request : Request) (a b : Reply) → OneOn charter day caller request a b
    → IsSome (deciding_entries request one) → deciding_entries request one ≡ deciding_entries request other
    → AnswersOn charter day caller request a (deciding_entries request one) → AnswersOn charter day caller request b (deciding_entries request other) → SaySame a b
agreed charter one other day caller request a b determined some same x y =
    one_on charter day caller request a b (deciding_entries request one) determined some x (subst (AnswersOn charter day caller request b) (sym same) y)

pub one_reply : OneOutcome → OneHypotheticalOutcome → OneSpelling → OneReply
one_reply law would spelling charter one other day caller (CommandRequest c) a b some same x y =
    agreed charter one other day caller (CommandRequest c) a b (λ history p q. one_of_command law charter history day caller c a b p.0 q.0 p.1 q.1) some same x y
one_reply law would spelling charter one other day caller (QueryRequest (ShowQuery h n)) a b some same x y =
    agreed charter one other day caller (QueryRequest (ShowQuery h n)) a b (λ history p q. one_of_show history h day caller n a b p.1.0 q.1.0) some same x y
one_reply law would spelling charter one other day caller (QueryRequest (ContentQuery h n)) a b some same x y =
    agreed charter one other day caller (QueryRequest (ContentQuery h n)) a b (λ history p q. one_of_content spelling history h day caller n a b p.1.0 q.1.0) some same x y
one_reply law would spelling charter one other day caller (QueryRequest (ListQuery h)) a b some same x y =
    agreed charter one other day caller (QueryRequest (ListQuery h)) a b (λ history p q. one_of_list history h day caller a b p.1.0 q.1.0) some same x y
one_reply law would spelling charter one other day caller (QueryRequest PayloadsQuery) a b some same x y = absurd (false≢true some)
one_reply law would spelling charter one other day caller (QueryRequest (ValidityQuery routes)) a b some same x y = absurd (false≢true some)
one_reply law would spelling charter one other day caller (QueryRequest (WhatIfQuery h changes routes)) a b some same x y =
    agreed charter one other day caller (QueryRequest (WhatIfQuery h changes routes)) a b (λ history p q. one_of_what_if would charter history day caller h changes routes a b p q) some same x y
