-- The rows that are left.
use Rattle.std.proofs.Common.{◌≡◌, Bool, not, List, [], ◌++◌, All, Contains}
use Rattle.std.proofs.Common.{ap, ◌∙◌}
use Rattle.std.specs.List.{filter}
use Rattle.std.proofs.lemmas.List.Elements.{All-contains_itself, All-filter}
use Rattle.mq_acl.specs.Rows.{AclRow}
use Rattle.mq_acl.specs.RowsByOwner.{is_everyones}
use Rattle.mq_witness.specs.Asked.{AskedRows}
use Rattle.mq_witness.specs.Rows.{lent_rows}
use Rattle.mq_shapes.specs.declared.clients.Clients.{Clients}
use Rattle.mq_differences.specs.ByOwner.{is_own}
use Rattle.mq_lint.specs.Needless.{is_among, without, without_all}
use Rattle.mq_lint.specs.Cases.{others_of}
use Rattle.mq_lint.specs.Left.{left_of}
use Rattle.mq_lint.specs.declared.called.Called.{Called}
use Rattle.mq_lint.proofs.SameLemmas.{swapped_filters, without_none}

-- they are rows of the list
pub left_within : (asked : AskedRows) (called : Called)
    → All (Contains asked.rows) (left_of asked called)
left_within asked called =
    All-filter (λ r. not (is_among (lent_rows called.called.items) r)) (Contains asked.rows)
    asked.rows (All-contains_itself asked.rows)

-- where none is called needless, all are left
pub all_left : (asked : AskedRows) (called : Called) → lent_rows called.called.items ≡ []
    → left_of asked called ≡ asked.rows
all_left asked called none =
    ap (λ some. without_all some asked.rows) none ∙ without_none asked.rows

-- the other rows for clients, gathered by whom they are for
pub gathered : (clients : Clients) (row : AclRow) (some rows start one two everyones own : List AclRow)
    → start ≡ [] → everyones ≡ filter (λ r. is_everyones r.who) rows
    → own ≡ filter (λ r. is_own clients r.who) rows
    → one ≡ start ++ without row (without_all some everyones)
    → two ≡ one ++ without row (without_all some own)
    → two ≡ others_of clients row (without_all some rows)
gathered clients row some rows start one two everyones own none e f g h =
    let left : AclRow → Bool = (λ r. not (is_among some r)) in
    h
    ∙ (λ i. g i ++ without row (without_all some (f i)))
    ∙ (λ i. (none i ++ without row (without_all some (e i)))
    ++ without row (without_all some (filter (λ r. is_own clients r.who) rows)))
    ∙ (λ i. without row (swapped_filters left (λ r. is_everyones r.who) rows i)
    ++ without row (swapped_filters left (λ r. is_own clients r.who) rows i))
