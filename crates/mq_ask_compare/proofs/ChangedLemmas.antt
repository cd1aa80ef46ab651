-- The text of differences.
use Rattle.std.proofs.Common.{◌≡◌, ℕ, List, refl}
use Rattle.mq_ask_compare.specs.Changed.{changes_text}
use Rattle.mq_differences.specs.declared.difference.Difference.{Difference}
use Rattle.mq_print.specs.Lists.{ListView}

-- it is that of lists with the same lines
pub changes_same : (old new : ListView) (old_lines new_lines : List (List ℕ))
    (ds es : List Difference) → old_lines ≡ old.lines → new_lines ≡ new.lines → ds ≡ es
    → changes_text (record { file = old.file; lines = old_lines })
    (record { file = new.file; lines = new_lines }) ds ≡ changes_text old new es
changes_same old new old_lines new_lines ds es olds news same = rw (olds, news, same) refl
