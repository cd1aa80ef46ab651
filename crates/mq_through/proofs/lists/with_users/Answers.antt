use Rattle.std.proofs.Common.{ℕ, List, Bor, ap, subst, sym}
use Rattle.mq_acl.specs.declared.row.Row.{Row}
use Rattle.mq_through.specs.Made.{IsList, Names}
use Rattle.mq_through.proofs.MadeLemmas.{IsFirstOf, first_of, with_names, with_spares}
use Rattle.mq_through.proofs.lists.with_users.Goals as goal

first_is : (c : goal.After-drop-spares-2) → IsFirstOf c.args.region.now c.index.result.now.now
first_is c =
    subst (IsFirstOf c.args.region.now) (ap (λ (f : Bor (List ℕ)). f.now) (sym c.index.ensures))
    (first_of c.args.region.now c.index.result.now c.requires.some c.requires.region)

pub returns-clause-list : goal.returns-clause-list
returns-clause-list c = λ asks client list is.
    let region = c.args.region.now in
    subst (λ (rows : List Row). IsList region asks client list rows)
    (sym c.in_ok-append.ensures.items)
    (with_spares region c.index.result.now.now c.args.users.now c.args.rows.items
    c.in_ok-spares.spares.items c.in_ok-spares.ensures (first_is c).off (first_is c).brief
    c.requires.users asks client list is)

pub returns-clause-names : goal.returns-clause-names
returns-clause-names c =
    subst (Names c.args.users.now) (sym c.in_ok-append.ensures.items)
    (with_names c.args.region.now c.index.result.now.now c.args.users.now c.args.rows.items
    c.in_ok-spares.spares.items c.in_ok-spares.ensures (first_is c).off (first_is c).brief
    c.requires.users)
