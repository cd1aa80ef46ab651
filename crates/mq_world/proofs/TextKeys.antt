-- Keys of maps that are texts behind counts, found by their bytes.
use Rattle.std.proofs.Common.{◌≡◌, ℕ, Bool, true, false, List, sym, ◌∙◌, ap}
use Rattle.std.specs.Rc.{rc_str_bytes}
use Rattle.std.specs.declared.cmp.Ordering.TheVariants.{Less}
use Rattle.std.specs.Ordering.{is_eq, nat_cmp}
use Rattle.std.specs.Cmp.Lexicographic.{slice_cmp, nat_list_eq_equiv, nat_list_cmp_total}
use Rattle.std.proofs.lemmas.Map.Text.{is_eq-slice_cmp}
use Rattle.std.proofs.lemmas.Slice.Eq.{bytes_eq-Decides}
use Rattle.mq_world.specs.Keys.{Key, key_cmp}
use Rattle.mq_world.specs.Lists.{same_text}
use Rattle.mq_world.proofs.OrderLemmas.{equal_from}

-- a look-up by bytes finds a key with these bytes
abbrev pub finds : List ℕ → Key → Bool
finds bs k = is_eq (slice_cmp nat_cmp bs (rc_str_bytes k))

-- to find a key by bytes is to compare its text with them
pub finds-is : (bs : List ℕ) (k : Key) → finds bs k ≡ same_text (rc_str_bytes k) bs
finds-is bs k = is_eq-slice_cmp bs (rc_str_bytes k) ∙ nat_list_eq_equiv.symm bs (rc_str_bytes k)

-- a key that bytes find has these bytes
pub key-is : (bs : List ℕ) (k : Key) → finds bs k ≡ true → rc_str_bytes k ≡ bs
key-is bs k h = (bytes_eq-Decides (rc_str_bytes k) bs).0 (sym (finds-is bs k) ∙ h)

-- bytes that find one key find none above it
pub apart : (bs : List ℕ) (x y : Key) → finds bs x ≡ true → key_cmp x y ≡ Less → finds bs y ≡ false
apart bs x y h less =
    ap is_eq (nat_list_cmp_total.congr bs (rc_str_bytes x) (rc_str_bytes y) (equal_from _ h) ∙ less)
