-- The lines of a list, taken apart.
use Rattle.std.proofs.Common.{◌≡◌, ℕ, List, refl}
use Rattle.mq_print.specs.Lists.{ListView}

-- it is the list with these lines
pub list_of : (list : ListView) (lines : List (List ℕ)) → lines ≡ list.lines
    → record { file = list.file; lines = lines } ≡ list
list_of list lines same = rw same refl
