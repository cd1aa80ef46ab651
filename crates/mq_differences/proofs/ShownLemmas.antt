-- What is shown of a witness.
use Rattle.std.proofs.Common.{◌≡◌, ◌==◌, ℕ, Bool, true, false, not, List}
use Rattle.std.proofs.Common.{Option, refl, ap, sym, ◌∙◌, subst, arith}
use Rattle.std.proofs.Common.{string_bytes}
use Rattle.std.specs.Prelude.{if◌then◌else◌}
use Rattle.std.specs.Option.{option_map}
use Rattle.std.proofs.lemmas.Bool.Decides.{nat_tests}
use Rattle.mq_topic.specs.Texts.{is_name}
use Rattle.mq_acl.specs.Access.{begins_with_dollar}
use Rattle.mq_acl.specs.Refused.{refuses}
use Rattle.mq_acl.specs.Views.{row_views}
use Rattle.mq_acl.specs.declared.access.Direction.{Direction}
use Rattle.mq_acl.specs.declared.access.Direction.TheVariants.{Reading, Writing}
use Rattle.mq_acl.specs.declared.rules.Rules.{Rules}
use Rattle.mq_acl.specs.declared.rules.Rules.TheVariants.{Own, Mosquitto}
use Rattle.mq_cover.specs.Remainders.{mark_passes}
use Rattle.mq_shapes.specs.Swaps.{swap_levels}
use Rattle.mq_shapes.specs.Swaps as leveled
use Rattle.mq_witness.specs.Asked.{user_view}
use Rattle.mq_witness.specs.Clients.{can_be_id}
use Rattle.mq_witness.specs.Ruled.{AreKnownBy, KnowsBy, ShowsBy, StandBy, StandsBy, decides_by}
use Rattle.mq_witness.specs.Ruled.{IsShownBy as IsShown}
use Rattle.mq_witness.specs.Swaps.{swap, swap_name, swap_user}
use Rattle.mq_witness.specs.declared.witness.Witness.{Witness}
use Rattle.mq_differences.specs.Classes.{is_in, user_of}
use Rattle.mq_differences.specs.Differences.{AreUnnamed, IsMarked, Shows, ShowsOthers, is_change, same_direction}
use Rattle.mq_differences.specs.Differences.{same_reason, same_start, same_way}
use Rattle.mq_differences.specs.Questions.{IsGain, IsPoint, IsQuestion}
use Rattle.mq_differences.specs.Questions.{IsShownBy, class_of, gain_cover}
use Rattle.mq_differences.specs.Questions.{asked_in, gain_must, gain_reasons, open_in, rules_in}
use Rattle.mq_differences.specs.Reasons.{reason_of}
use Rattle.mq_differences.specs.Reports.{IsSound}
use Rattle.mq_differences.specs.declared.difference.Difference.{Difference}
use Rattle.mq_differences.specs.declared.gains.Gain.{Gain}
use Rattle.mq_differences.specs.declared.gains.Question.{Question}
use Rattle.mq_differences.specs.declared.reason.Reason.{Reason}
use Rattle.mq_differences.specs.declared.reason.Reason.TheVariants.{Broker, Deny, Grant, NoGrant}
use Rattle.mq_differences.specs.declared.way.Way.{Way}
use Rattle.mq_differences.specs.declared.way.Way.TheVariants.{Gained, Lost}
use Rattle.mq_differences.proofs.GainLemmas.{change_by, gain_decides, reasons_by}
use Rattle.mq_differences.proofs.PointLemmas.{class_has, class_user, client_user}

way_itself : (a : Way) → same_way a a ≡ true
way_itself Gained = refl
way_itself Lost = refl

direction_itself : (a : Direction) → same_direction a a ≡ true
direction_itself Reading = refl
direction_itself Writing = refl

line_itself : (n : ℕ) → (n == n) ≡ true
line_itself n = grind (arith, nat_tests)

reason_itself : (a : Reason) → same_reason a a ≡ true
reason_itself (Deny line) = line_itself line
reason_itself (Grant line) = line_itself line
reason_itself NoGrant = refl
reason_itself Broker = refl

start_same : (a b : List ℕ) → begins_with_dollar a ≡ begins_with_dollar b → same_start a b ≡ true
start_same a b e = at (begins_with_dollar a) (begins_with_dollar b) e
  where
    at : (x y : Bool) → x ≡ y → (if x then y else not y) ≡ true
    at true true e = refl
    at true false e = absurd (cc)
    at false true e = absurd (cc)
    at false false e = refl

-- ---- a difference of a question and a gain
-- what is shown of a witness: with this class and these texts
pub record IsOf (q : Question) (gain : Gain) (w : Witness) (d : Difference) : Type 0 where
  pub class : d.class ≡ class_of q.clients w.user
  pub direction : d.direction ≡ q.direction
  pub way : d.way ≡ q.way
  pub client : string_bytes d.client ≡ string_bytes w.client
  pub topic : d.topic ≡ w.name
  pub old_reason : d.old_reason ≡ (gain_reasons q.way gain).0
  pub new_reason : d.new_reason ≡ (gain_reasons q.way gain).1

-- where the rows of the gain decide, it is so of a client and a topic
pub shows_at : (q : Question) (gain : Gain) (w : Witness) (d : Difference) (client : List ℕ)
    (user : Option (List ℕ)) (topic : List ℕ) → IsQuestion q → IsGain q gain
    → ShowsBy (open_in q) (asked_in q) q.clients (gain_must gain) (gain_cover gain) w
    → IsOf q gain w d → IsPoint (open_in q) (asked_in q) q.clients client user topic
    → decides_by (rules_in q) client user topic (gain_must gain) (gain_cover gain) ≡ true
    → Shows (rules_in q) q.lists.now.old.now q.lists.now.new.now d client user topic
shows_at q gain w d client user topic k g s o p e =
    let rules = rules_in q in
    let old = q.lists.now.old.now in
    let new = q.lists.now.new.now in
    let by = gain_decides q gain client user topic k g p e in
    let reasons = reasons_by rules q.way old new client user topic q.direction gain by.from by.to in
    record {
      client_fits = p.is_asked.client_fits;
      user_fits = client_user (asked_in q) q.clients user p.is_asked.user_fits;
      valid = p.valid;
      class = ap (λ c. is_in (row_views old) (row_views new) user c) o.class
          ∙ class_has (asked_in q) (row_views old) (row_views new) q.clients w.user user
          k.asked k.listed s.is_asked.user_fits p.is_asked.user_fits;
      change = (λ i. is_change rules (o.way i) (row_views old) (row_views new) client user topic
          (o.direction i))
          ∙ change_by rules q.way old new client user topic q.direction
          (option_map (λ r. r.now) gain.deny) gain.grant.now.line by.from by.to;
      old_reason = o.old_reason ∙ reasons.0
          ∙ ap (λ x. reason_of rules old client user topic x) (sym o.direction);
      new_reason = o.new_reason ∙ reasons.1
          ∙ ap (λ x. reason_of rules new client user topic x) (sym o.direction);
    }

-- it is shown of each client and topic where they decide
pub shown_at : (dollar : Bool) (q : Question) (gain : Gain) (w : Witness) (d : Difference)
    → IsQuestion q → IsGain q gain
    → ShowsBy (open_in q) (asked_in q) q.clients (gain_must gain) (gain_cover gain) w
    → begins_with_dollar w.name ≡ dollar → IsOf q gain w d → IsShownBy dollar q gain d
shown_at dollar q gain w d k g s start o client topic user p kind e =
    let rules = rules_in q in
    let old = q.lists.now.old.now in
    let new = q.lists.now.new.now in
    let is_shown = shows_at q gain w d client user topic k g s o p e in
    rw (
      is_shown.class,
      ap (same_direction q.direction) o.direction ∙ direction_itself q.direction,
      ap (same_way q.way) o.way ∙ way_itself q.way,
      start_same topic d.topic
          (kind ∙ sym start ∙ ap begins_with_dollar (sym o.topic)),
      ap (λ x. same_reason (reason_of rules old client user topic x) d.old_reason) (sym o.direction)
          ∙ ap (same_reason (reason_of rules old client user topic d.direction)) is_shown.old_reason
          ∙ reason_itself (reason_of rules old client user topic d.direction),
      ap (λ x. same_reason (reason_of rules new client user topic x) d.new_reason) (sym o.direction)
          ∙ ap (same_reason (reason_of rules new client user topic d.direction)) is_shown.new_reason
          ∙ reason_itself (reason_of rules new client user topic d.direction),
    ) refl

-- it is sound
pub sound_of : (q : Question) (gain : Gain) (w : Witness) (d : Difference)
    → IsQuestion q → IsGain q gain
    → ShowsBy (open_in q) (asked_in q) q.clients (gain_must gain) (gain_cover gain) w
    → StandsBy (open_in q) (asked_in q) q.clients (gain_must gain) (gain_cover gain) w
    → KnowsBy (asked_in q) w
    → IsOf q gain w d → IsMarked (asked_in q) d → AreUnnamed (asked_in q) d
    → IsSound q.lists.now.old.now q.lists.now.new.now (asked_in q) d
sound_of q gain w d k g s t n o m u =
    let rules = rules_in q in
    let old = q.lists.now.old.now in
    let new = q.lists.now.new.now in
    let user : user_of d.class ≡ user_view w.user = ap user_of o.class
    ∙ class_user (asked_in q) q.clients w.user s.is_asked.user_fits in
    record {
      real = at_difference (λ client user topic. Shows rules old new d client user topic) user
          o.client o.topic
          (shows_at q gain w d (string_bytes w.client) (user_view w.user) w.name k g s o
          (record { is_asked = s.is_asked; valid = s.valid; taken = s.taken }) s.decided);
      marked = m;
      unnamed = u;
      known = at_difference (λ client user topic. AreKnownBy (asked_in q).rules (asked_in q) client
          user topic) user o.client o.topic n;
      stands = stands_of (asked_in q).rules refl user t;
    }
  where
    at_difference : (P : List ℕ → Option (List ℕ) → List ℕ → Type 0)
        → user_of d.class ≡ user_view w.user → string_bytes d.client ≡ string_bytes w.client
        → d.topic ≡ w.name → P (string_bytes w.client) (user_view w.user) w.name
        → P (string_bytes d.client) (user_of d.class) d.topic
    at_difference P u c n h =
        subst (λ x. P x (user_of d.class) d.topic) (sym c)
        (subst (λ x. P (string_bytes w.client) x d.topic) (sym u)
        (subst (λ x. P (string_bytes w.client) (user_view w.user) x) (sym n) h))

    -- with other texts in the place of those that stand for them
    shown_with : (r : Rules) → (asked_in q).rules ≡ r → (client topic : List ℕ)
        (user : Option (List ℕ))
        → IsShown (open_in q) (asked_in q) q.clients (gain_must gain) (gain_cover gain) client user
        topic
        → Shows r q.lists.now.old.now q.lists.now.new.now d client user topic
    shown_with r e client topic user is_shown =
        subst (λ r. Shows r q.lists.now.old.now q.lists.now.new.now d client user topic) e
        (shows_at q gain w d client user topic k g s o
        (record {
          is_asked = is_shown.is_asked;
          valid = is_shown.valid;
          taken = is_shown.taken;
        }) is_shown.decided)

    stands_of : (r : Rules) → (asked_in q).rules ≡ r → user_of d.class ≡ user_view w.user
        → StandBy r (open_in q) (asked_in q) q.clients (gain_must gain) (gain_cover gain) w
        → ShowsOthers r q.lists.now.old.now q.lists.now.new.now (asked_in q) d
    stands_of Own e user t = λ text other stands valid taken.
        at_difference (λ client user topic. Shows Own q.lists.now.old.now q.lists.now.new.now d
        (swap text other client) (swap_user text other user) (swap_name text other topic)) user
        o.client o.topic
        (shown_with Own e (swap text other (string_bytes w.client)) (swap_name text other w.name)
        (swap_user text other (user_view w.user)) (t text other stands
        (subst (λ n. is_name (swap_name text other n) ≡ true) o.topic valid)
        ((λ i. refuses (e i) (sym o.direction i) (swap_name text other (sym o.topic i))) ∙ taken)))
    stands_of Mosquitto e user t = λ level other stands id user_id valid taken.
        at_difference (λ client user topic. Shows Mosquitto q.lists.now.old.now
        q.lists.now.new.now d (swap_levels level other client)
        (leveled.swap_user level other user) (swap_levels level other topic)) user o.client o.topic
        (shown_with Mosquitto e (swap_levels level other (string_bytes w.client))
        (swap_levels level other w.name) (leveled.swap_user level other (user_view w.user))
        (t level other stands
        (subst (λ c. can_be_id (swap_levels level other c) ≡ true) o.client id)
        (subst (λ u. mark_passes can_be_id (leveled.swap_user level other u) ≡ true) user user_id)
        (subst (λ n. is_name (swap_levels level other n) ≡ true) o.topic valid)
        ((λ i. refuses (e i) (sym o.direction i) (swap_levels level other (sym o.topic i))) ∙ taken)))
