-- Two files with no fault.
use Rattle.cli_texts.proofs.Vocabulary.{◌≡◌, ℕ, List, None, refl, check_fault, csv_records, file_fault, payload_fault, route_fault, route_header, payload_header}

pub faultless-check : (payloads routes : List ℕ)
    → file_fault payload_header payload_fault (csv_records payloads) ≡ None
    → file_fault route_header route_fault (csv_records routes) ≡ None → check_fault payloads routes ≡ None
faultless-check payloads routes one two = rw (one, two) refl
