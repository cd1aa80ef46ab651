use Rattle.std.proofs.Common.{map, Result, Ok, Err, IfOk}
use Rattle.mqroute_acl.proofs.TestLemmas.{tested_of}
use Rattle.mqroute_acl.proofs.test.tested.Goals as goal

IfOk-both : {T E : Type 0} (r : Result T E) (P Q R : T → Type 0) → ((x : T) → P x → Q x → R x)
    → IfOk r P → IfOk r Q → IfOk r R
IfOk-both (Ok x) P Q R both p q = both x p q
IfOk-both (Err e) P Q R both p q = tt

pub returns-clause-ok : goal.returns-clause-ok
returns-clause-ok g c =
    let given = map (λ file. file.now) c.args.given.now in
    IfOk-both c.test_lists.result _ _ _
    (λ shown is some. λ known is_known.
    tested_of c.args.options.rules known c.args.expected.text.now given
    c.in_ok-lists.lists.items c.add_all_named.new.lists.items c.deref-4.result.now
    c.in_ok-read.read.items c.deref-6.result.now
    c.in_ok-expectations.expectations.items c.deref-5.result.now shown.outcome
    (c.in_ok-lists.ensures.ok known is_known) (c.in_ok-add_all_named.ensures known)
    c.deref-4.ensures.value (c.in_ok-read.ensures known given) c.deref-6.ensures.value
    c.deref-5.ensures.value
    c.in_ok-expectations.ensures is some)
    c.test_lists.ensures.shown c.test_lists.ensures.some
