use Rattle.std.proofs.Common.{◌≡◌, ◌++◌, ◌∷◌, [], List, length, ap, ◌∙◌, string_bytes}
use Rattle.std.proofs.lemmas.Result.{on_ok_weaker}
use Rattle.std.specs.Prelude.{if◌then◌else◌}
use Rattle.std.specs.Str.{bytes_eq}
use Rattle.mq_differences.specs.Groups.{places_at}
use Rattle.mq_differences.specs.declared.group.Gathering.{Gathering}
use Rattle.mq_differences.specs.declared.group.Group.{Group}
use Rattle.mq_differences.proofs.GroupLemmas.{gathered_begun}
use Rattle.mq_differences.proofs.group.Gathering.begin.Goals as goal

pub returns : goal.returns
returns c = on_ok_weaker c.add_place.result (λ more all is lacks s.
    let group : Group = record { first = c.args.first; others = c.new.result } in
    let now : Gathering = record { groups = c.push.new.self; places = c.add_place.new.places } in
    let n : length c.as_slice-place.result.now ≡ length c.args.self.now.groups.items =
    ap (λ (gs : List Group). length gs) c.as_slice-place.ensures.value in
    gathered_begun all c.args.self.now now group (string_bytes c.args.key) is c.new.ensures.items
    c.in_ok-push.ensures.items
    (λ text. more text ∙ ap (λ place. places_at text c.args.self.now
    ++ (if bytes_eq text (string_bytes c.args.key) then place ∷ [] else [])) n) lacks s) c.add_place.ensures
