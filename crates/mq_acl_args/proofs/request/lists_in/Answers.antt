use Rattle.std.proofs.Common.{◌≡◌, ◌∙◌, Some, [], ap, codes, map}
use Rattle.std.specs.Prelude.{unwrap_or}
use Rattle.std.proofs.lemmas.Result.{IfOk-weaker}
use Rattle.clap.specs.Words.{all_of, found_of, rows_of}
use Rattle.clap.proofs.WalkLemmas.{raw_values-rows}
use Rattle.mq_acl_args.proofs.request.lists_in.Goals as goal

pub returns-in-Some : goal.returns-in-Some
returns-in-Some c =
    let found = found_of c.args.matches.now in
    let given : Some (map (λ v. v.now) c.in-Some.lists.now) ≡ all_of (codes "LIST") (rows_of found)
    = rw c.in-Some.is at (c.get_strs.ensures ∙ raw_values-rows found (codes "LIST")) in
    IfOk-weaker c.from_slice.result _ _
    (λ lists e. ap (map (λ file. file.now)) e ∙ ap (λ given. unwrap_or given []) given)
    c.from_slice.ensures.items

pub returns-in-None : goal.returns-in-None
returns-in-None c =
    let found = found_of c.args.matches.now in
    ap (map (λ file. file.now)) c.new.ensures.items
    ∙ ap (λ given. unwrap_or given [])
    (rw c.in-None.is at (c.get_strs.ensures ∙ raw_values-rows found (codes "LIST")))
