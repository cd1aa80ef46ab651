use Rattle.std.proofs.Common.{◌≡◌, true, arith, ap, subst, ◌∙◌, ◌+◌, ◌++◌, string_bytes}
use Rattle.mq_unify.specs.Bindings.{general_text}
use Rattle.mq_unify.proofs.JoinLemmas.{joined_more, passed_more}
use Rattle.mq_unify.proofs.general.joined.Goals as goal

pub loop-place-preserved : goal.loop-place-preserved
loop-place-preserved c =
    let values = general_text c.args.prefix.now c.args.bindings.now.bindings.items in
    let at : values (c.from-in-loop-place.result + c.from-in-loop-place-2.result)
    ≡ values (c.args.first + c.loop-place.place) =
    λ i. values (c.from-in-loop-place.ensures i + c.from-in-loop-place-2.ensures i) in (
      joined_more values c.args.first c.loop-place.place (string_bytes c.loop-place.text)
          (string_bytes c.push_str.new.self) (string_bytes c.push_str-in-loop-place.new.self)
          (omega arith) c.loop-place.invariant.0 c.in_ok-push_str.ensures.bytes
          (c.in_ok-push_str-2.ensures.bytes
          ∙ ap (λ t. string_bytes c.push_str.new.self ++ t) (c.as_str.ensures.value
          ∙ c.in_ok-level.ensures.text ∙ at)),
      λ test fresh fit. passed_more test values c.args.first c.loop-place.place
          (c.loop-place.invariant.1 test fresh fit)
          (subst (λ t. test t ≡ true) at (c.in_ok-level.ensures.passes test fresh fit)),
    )
