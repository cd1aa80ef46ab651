-- Bytes that are no text have no value.
use Rattle.std.proofs.Common.{◌≡◌, ℕ, List, Bool, true, false, cond, Some, None, IsUtf8, refl}
use Rattle.std.proofs.lemmas.Str.{IsUtf8-from_is_utf8, is_utf8-from_IsUtf8}
use Rattle.std.specs.Str.{is_utf8}
use Rattle.serde_json.specs.Data.{Data}
use Rattle.serde_json.specs.Read.{read}
use Rattle.mq_jsonl.specs.Reading.{value_of}

-- a line that is text has the value that is read
pub value_of-text : (line : List ℕ) (d : Data) → IsUtf8 line → read line ≡ Some d
    → value_of line ≡ Some d
unfolding value_of
value_of-text line d text is = let e = is_utf8-from_IsUtf8 line text in rw e is

refused_at : (line : List ℕ) → (IsUtf8 line → read line ≡ None) → (b : Bool) → is_utf8 line ≡ b
    → cond b (read line) None ≡ None
refused_at line h true e = h (IsUtf8-from_is_utf8 line e)
refused_at line h false e = refl

-- a line has no value where, if it is text, nothing is read
pub value_of-refused : (line : List ℕ) → (IsUtf8 line → read line ≡ None) → value_of line ≡ None
unfolding value_of
value_of-refused line h = refused_at line h (is_utf8 line) refl
