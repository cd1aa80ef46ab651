use Rattle.std.proofs.Common.{◌≡◌, ◌∙◌, Some, ap, codes, map}
use Rattle.std.specs.Prelude.{option_map}
use Rattle.clap.specs.Words.{all_of, found_of, rows_of}
use Rattle.clap.proofs.WalkLemmas.{raw_values-rows}
use Rattle.mq_acl_args.specs.CommandLine.{Lint}
use Rattle.mq_acl_args.proofs.request.lint_in.Goals as goal

pub returns-in_ok-files-in-Some : goal.returns-in_ok-files-in-Some
returns-in_ok-files-in-Some c =
    let found = found_of c.args.matches.now in
    let given : Some (map (λ v. v.now) c.in-Some.files.now) ≡ all_of (codes "LIST") (rows_of found)
    = rw c.in-Some.is at (c.get_strs.ensures ∙ raw_values-rows found (codes "LIST")) in
    ap (λ files. Some (Lint (map (λ file. file.now) files))) c.in_ok-files-in-Some.ensures.items
    ∙ ap (option_map Lint) given

pub returns-in-None : goal.returns-in-None
returns-in-None c =
    let found = found_of c.args.matches.now in
    ap (option_map Lint)
    (rw c.in-None.is at (c.get_strs.ensures ∙ raw_values-rows found (codes "LIST")))
