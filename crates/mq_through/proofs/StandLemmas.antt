-- The clients that are tried stand for all.
use Rattle.std.proofs.Common.{◌≡◌, ◌==◌, ℕ, Bool, true, false, not, ◌&&◌, List, length, refl}
use Rattle.std.proofs.Common.{Option, Some, None}
use Rattle.mq_regions.specs.Regions.{is_mark}
use Rattle.mq_witness.specs.Clients.{can_be_id}
use Rattle.mq_differences.specs.Classes.{can_be_user}
use Rattle.mq_through.specs.Clients.{StandsFor, ask_client, is_named}
use Rattle.mq_through.specs.Made.{IsClient, IsComparison}
use Rattle.mq_through.specs.Through.{IsQuestion, Question}
use Rattle.mq_through.specs.declared.comparison.Comparison.{Comparison}
use Rattle.mq_through.proofs.LongLemmas.{user_is_id}
use Rattle.mq_through.proofs.MoveLemmas.{IsMove, moved}
use Rattle.mq_through.proofs.NamedLemmas.{named_is_name}
use Rattle.mq_through.proofs.QuestionLemmas.{IsUserOf, moved_stands}
use Rattle.mq_through.proofs.RenameLemmas.{name_moved}
use Rattle.mq_through.proofs.TextLemmas.{IsStandIn, moves, short_for, text_for, user_fits}
use Rattle.mq_through.proofs.TextLemmas.{user_for, user_itself, user_unnamed}

module _ (k : Comparison) (is : IsComparison k) (q : Question) (asked : IsQuestion k.plan.now q)
    (d : List ℕ) (id : IsClient d) where
  abbrev asks : Bool
  asks = ask_client k

  abbrev named : List ℕ → Bool
  named t = is_named k t && not (is_mark t)

  module _ (s : IsStandIn named asks q.client d)
      (some : (x : List ℕ) → q.user ≡ Some x → (length x == 0) ≡ false) where
    abbrev f : List ℕ → List ℕ
    f = text_for named asks q.client d s q.user

    abbrev v : Option (List ℕ)
    v = user_for named asks q.client d s q.user

    m : IsMove named asks q.client d q.user v f
    m = moves named asks q.client d s q.user some

    user_of_it : (u : Option (List ℕ)) → IsUserOf named u (user_for named asks q.client d s u)
    user_of_it None = tt
    user_of_it (Some x) =
        (user_itself named asks q.client d s x, user_unnamed named asks q.client d s x)

    user_id : (u : Option (List ℕ)) → can_be_user u ≡ true
        → can_be_user (user_for named asks q.client d s u) ≡ true
    user_id None h = refl
    user_id (Some x) h = user_fits named asks q.client d s (λ y. can_be_id y ≡ true) x h id.id
        user_is_id

    -- the question that stands for it
    abbrev pub standing : Question
    standing = record {
      client = d;
      user = user_for named asks q.client d s q.user;
      direction = q.direction;
      topic = moved (text_for named asks q.client d s q.user) q.topic;
      name = moved (text_for named asks q.client d s q.user) q.name;
    }

    pub stands : StandsFor k.plan.now k.old.now k.new.now q standing
    stands =
        let short = short_for named asks q.client d s q.user in
        moved_stands k is q asked d v f m (user_of_it q.user) id.id (user_id q.user asked.user)
        (name_moved named asks q.client d q.user v f m short q.topic asked.topic)
        (name_moved named asks q.client d q.user v f m short q.name
        (named_is_name k.plan.now q.topic q.name asked.topic asked.name))
