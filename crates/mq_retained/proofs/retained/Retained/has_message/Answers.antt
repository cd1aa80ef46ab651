use Rattle.std.proofs.Common.{◌≡◌, ◌∙◌, ap, refl, is_some, Option, Some, None}
use denote.Ref.{Bor}
use Rattle.std.specs.Option.{option_copied, option_map}
use Rattle.std.specs.List.{list_any}
use Rattle.mq_world.specs.Retained.{has_topic}
use Rattle.mq_retained.specs.Stored.{message_in, retained_in, RetainedView}
use Rattle.mq_world.proofs.ListLemmas.{is_some-find}
use Rattle.mq_retained.proofs.RetainedLemmas.{found-retained}
use Rattle.mq_retained.proofs.retained.Retained.has_message.Goals as goal

some-copied : {X : Type 0} (o : Option (Bor X)) → is_some o ≡ is_some (option_copied o)
some-copied None = refl
some-copied (Some x) = refl

some-map : {X Y : Type 0} (f : X → Y) (o : Option X) → is_some o ≡ is_some (option_map f o)
some-map f None = refl
some-map f (Some x) = refl

pub returns : goal.returns
returns c =
    let topic = c.args.topic.now in
    c.is_some.ensures ∙ some-copied c.get.result ∙ ap is_some c.get.ensures ∙ some-map message_in _
    ∙ ap is_some (found-retained topic c.self.inside.tree c.self.invariant.placed)
    ∙ is_some-find (has_topic topic) (retained_in c.self.inside.tree)
    ∙ ap (λ (k : RetainedView). list_any (has_topic topic) k.messages) c.self.view_is
