use Rattle.web.proofs.Vocabulary.{◌≡◌, ◌++◌, inl, inr, refl, csv_text, payload_header, payload_row, Payloads, reply_response, unavailable_response}
use Rattle.payload.specs.VrpSet as set
use Rattle.web.proofs.VrpLemmas.{on-err-then, on-ok-then, uncounted}
use Rattle.web.proofs.http.response.write_vrps_response.Goals as goal

pub returns-in-Some-clause-ok : goal.returns-in-Some-clause-ok
returns-in-Some-clause-ok g c =
    let vrps = set.items c.args.vrps.now in
    let text = c.as_str.result.now ++ csv_text payload_header payload_row vrps in
    let whole : text ≡ reply_response c.args.form (Payloads vrps) =
    rw (c.as_str.ensures.value, c.response_head-head.ensures, (rw c.in-Some.is at c.csv_length.ensures).1) refl in
    on-ok-then c.write_csv.result _ _ (λ written. (text, inl whole, written)) (rw c.vrps.ensures at c.write_csv.ensures.ok)

pub returns-in-Some-clause-err : goal.returns-in-Some-clause-err
returns-in-Some-clause-err g c =
    let vrps = set.items c.args.vrps.now in
    let text = c.as_str.result.now ++ csv_text payload_header payload_row vrps in
    let whole : text ≡ reply_response c.args.form (Payloads vrps) =
    rw (c.as_str.ensures.value, c.response_head-head.ensures, (rw c.in-Some.is at c.csv_length.ensures).1) refl in
    on-err-then c.write_csv.result _ _ (λ begins. (text, inl whole, begins)) (rw c.vrps.ensures at c.write_csv.ensures.err)

pub returns-in-None-clause-ok : goal.returns-in-None-clause-ok
returns-in-None-clause-ok g c =
    let too_long = uncounted c.args.vrps.now (rw c.in-None.is at c.csv_length.ensures) in
    on-ok-then c.write_unavailable.result _ _ (λ written. (unavailable_response, inr (too_long, refl), written)) c.write_unavailable.ensures.ok

pub returns-in-None-clause-err : goal.returns-in-None-clause-err
returns-in-None-clause-err g c =
    let too_long = uncounted c.args.vrps.now (rw c.in-None.is at c.csv_length.ensures) in
    on-err-then c.write_unavailable.result _ _ (λ begins. (unavailable_response, inr (too_long, refl), begins)) c.write_unavailable.ensures.err
