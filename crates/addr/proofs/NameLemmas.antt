use Rattle.addr.proofs.Vocabulary.{◌≡◌, ℕ, ◌-◌, ◌<◌, List, ◌++◌, true, get_or, length, take, refl, arith, IsTrue, replicate, list_all, IsUtf8, take-append_seam, and_parts, nat_tests, AllPass-from_list_all, IsUtf8-from_ascii, is_name, is_name_byte}
use Rattle.std.proofs.lemmas.Str.Ascii.{IsAscii-from_all}

-- a name's text with zeros behind it, as the fields of a name have it
pub padded :
    (text rest : List ℕ) → rest ≡ replicate (32 - length text) 0 → IsTrue (is_name text)
    → ((text ++ rest) ≡ take (length text) (text ++ rest) ++ replicate (32 - length text) 0)
    × (length (take (length text) (text ++ rest)) ≡ length text)
    × IsTrue (is_name (take (length text) (text ++ rest)))
padded text rest e h = rw (take-append_seam text rest) (rw e refl, refl, h)

name_byte_ascii : (b : ℕ) → is_name_byte b ≡ true → b < 128
name_byte_ascii b h = grind (arith, nat_tests)

pub name_utf8 : (text : List ℕ) → IsTrue (is_name text) → IsUtf8 text
name_utf8 text h =
    let bytes = (and_parts _ (list_all is_name_byte text) h).1 in
    IsUtf8-from_ascii text
    (IsAscii-from_all text
    (λ k d within. name_byte_ascii (get_or text k d) (AllPass-from_list_all is_name_byte text bytes k d within)))
