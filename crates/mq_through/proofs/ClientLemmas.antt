-- What is shown of one client in one region.
use Rattle.std.proofs.Common.{◌≡◌, ℕ, Bool, true, false, not, ◌&&◌}
use Rattle.std.proofs.Common.{List, refl, ap, sym, ◌∙◌}
use Rattle.std.proofs.Common.{subst}
use Rattle.std.proofs.Common.{Option, Some, None, Bor, string_bytes}
use Rattle.std.proofs.lemmas.Bool.{and_parts}
use Rattle.mq_topic.specs.Texts.{is_name}
use Rattle.mq_acl.specs.Access.{rows_allow}
use Rattle.mq_acl.specs.Lines.{Access}
use Rattle.mq_acl.specs.Rows.{AclRow}
use Rattle.mq_acl.specs.Views.{row_views}
use Rattle.mq_acl.specs.declared.access.Direction.{Direction}
use Rattle.mq_acl.specs.declared.row.Row.{Row}
use Rattle.mq_acl.specs.declared.rules.Rules.TheVariants.{Own}
use Rattle.mq_witness.specs.Literals.{is_among}
use Rattle.mq_differences.specs.Classes.{is_in, is_listed, user_of}
use Rattle.mq_differences.specs.Differences as differences
use Rattle.mq_differences.specs.Differences.{is_change, is_of, same_direction, same_reason}
use Rattle.mq_differences.specs.Differences.{same_start}
use Rattle.mq_differences.specs.Differences.{same_reasons, same_way}
use Rattle.mq_differences.specs.Reasons.{reason_of}
use Rattle.mq_differences.specs.declared.difference.Difference.{Difference}
use Rattle.mq_differences.specs.declared.way.Way.{Way}
use Rattle.mq_differences.specs.declared.way.Way.TheVariants.{Gained, Lost}
use Rattle.mq_plan.specs.Names.{new_name}
use Rattle.mq_plan.specs.declared.rule.PlanRule.{PlanRule}
use Rattle.mq_regions.specs.Deciding.{first_line}
use Rattle.mq_regions.specs.Regions.{in_region, name_in}
use Rattle.mq_regions.specs.declared.region.Region.{Region}
use Rattle.mq_through.specs.Checks.{HasNoName}
use Rattle.mq_through.specs.Faults.{IsThroughFault}
use Rattle.mq_through.specs.Made.{HasRule, IsClient, IsList, IsNameFault, IsRenamed}
use Rattle.mq_through.specs.Made.{Names}
use Rattle.mq_through.specs.Made.{asks_new, asks_old}
use Rattle.mq_through.specs.Named.{is_named_in}
use Rattle.mq_through.specs.Parts.{IsPart}
use Rattle.mq_through.specs.Through.{IsQuestion, IsReal, Question, changes, is_changed, is_shown_of}
use Rattle.mq_through.specs.Through.{new_reason, old_reason, question_of}
use Rattle.mq_through.specs.Through.{rule_line, same_line}
use Rattle.mq_through.specs.declared.fault.ThroughFault.{ThroughFault}
use Rattle.mq_through.specs.declared.fault.ThroughFault.TheVariants as faults
use Rattle.mq_through.specs.declared.renamed.Renamed.{Renamed}
use Rattle.mq_through.proofs.MadeLemmas.{class_shown, class_user}
use Rattle.mq_through.proofs.ReasonLemmas.{same_allows}
use Rattle.mq_through.proofs.ReasonLemmas as reasons
use Rattle.mq_through.proofs.ShownLemmas.{line_itself, shown}

change_by : (way : Way) (old new : List AclRow) (c : List ℕ) (u : Option (List ℕ)) (t : List ℕ)
    (d : Direction) → is_change Own way old new c u t d
    ≡ changes way (rows_allow old c u t d) (rows_allow new c u t d)
change_by Gained old new c u t d = refl
change_by Lost old new c u t d = refl

no_change : (way : Way) → changes way false false ≡ false
no_change Gained = refl
no_change Lost = refl

-- what is made for one client and region
pub record AreMade (plan : List PlanRule) (old new : List Row) (region : Region)
    (client : List ℕ) (users : List (Bor (List ℕ))) (made_old made_new : List Row) : Type 0 where
  pub part : IsPart plan region
  pub client_is : IsClient client
  pub listed : (user : List ℕ) → is_among user users
      ≡ is_listed (row_views old) (row_views new) user
  pub old_list : IsList region asks_old client old made_old
  pub new_list : IsList region (asks_new region) client new made_new
  pub names : Names users made_old

module _ (plan : List PlanRule) (old new : List Row) (region : Region) (client : List ℕ)
    (users : List (Bor (List ℕ))) (made_old made_new : List Row)
    (m : AreMade plan old new region client users made_old made_new) where
  -- ---- a topic of the region with a new name
  named : (topic name : List ℕ) → in_region region topic ≡ true → new_name plan topic ≡ Some name
      → name_in region topic ≡ Some name
  named topic name e h = m.part.of.names topic e ∙ h

  lines_old : (u : Option (List ℕ)) (topic : List ℕ) → is_name topic ≡ true
      → in_region region topic ≡ true → (p : Access → Bool)
      → first_line p client u topic made_old ≡ first_line p client u topic old
  lines_old u topic v e p = m.old_list.same client topic topic u p v e refl

  lines_new : (u : Option (List ℕ)) (topic name : List ℕ) → is_name topic ≡ true
      → in_region region topic ≡ true → new_name plan topic ≡ Some name
      → (p : Access → Bool)
      → first_line p client u topic made_new ≡ first_line p client u name new
  lines_new u topic name v e h p =
      m.new_list.same client topic name u p v e (named topic name e h)

  reason_old : (u : Option (List ℕ)) (topic : List ℕ) (d : Direction) → is_name topic ≡ true
      → in_region region topic ≡ true
      → reason_of Own made_old client u topic d ≡ reason_of Own old client u topic d
  reason_old u topic d v e =
      reasons.same_reasons made_old old client client u topic topic d (lines_old u topic v e)

  reason_new : (u : Option (List ℕ)) (topic name : List ℕ) (d : Direction) → is_name topic ≡ true
      → in_region region topic ≡ true → new_name plan topic ≡ Some name
      → reason_of Own made_new client u topic d ≡ reason_of Own new client u name d
  reason_new u topic name d v e h =
      reasons.same_reasons made_new new client client u topic name d
      (lines_new u topic name v e h)

  change_made : (way : Way) (u : Option (List ℕ)) (topic name : List ℕ) (d : Direction)
      → is_name topic ≡ true → in_region region topic ≡ true → new_name plan topic ≡ Some name
      → is_change Own way (row_views made_old) (row_views made_new) client u topic d
      ≡ changes way (rows_allow (row_views old) client u topic d)
      (rows_allow (row_views new) client u name d)
  change_made way u topic name d v e h =
      change_by way (row_views made_old) (row_views made_new) client u topic d
      ∙ (λ i. changes way
      (same_allows made_old old client client u topic topic d (lines_old u topic v e) i)
      (same_allows made_new new client client u topic name d (lines_new u topic name v e h) i))

  -- what changes for the client changes in the lists that are made
  pub changes_made : (way : Way) (q : Question) → IsQuestion plan q → q.client ≡ client
      → in_region region q.topic ≡ true → is_changed way old new q ≡ true
      → is_change Own way (row_views made_old) (row_views made_new) client q.user q.topic
      q.direction ≡ true
  changes_made way q is c e h =
      change_made way q.user q.topic q.name q.direction is.topic e is.name
      ∙ (λ i. changes way (rows_allow (row_views old) ((sym c) i) q.user q.topic q.direction)
      (rows_allow (row_views new) ((sym c) i) q.user q.name q.direction))
      ∙ h

  -- ---- a difference of the lists that are made
  -- its topic is of the region
  pub differs_in : (d : Difference) → differences.IsReal Own made_old made_new d
      → in_region region d.topic ≡ true
  differs_in d is = at (in_region region d.topic) refl
    where
      at : (b : Bool) → in_region region d.topic ≡ b → b ≡ true
      at true e = refl
      at false e = absurd (let q : false ≡ true =
          sym (change_by d.way (row_views made_old) (row_views made_new) (string_bytes d.client)
          (user_of d.class) d.topic d.direction
          ∙ (λ i. changes d.way
          (m.old_list.outside (string_bytes d.client) d.topic (user_of d.class) d.direction
          is.valid e i)
          (m.new_list.outside (string_bytes d.client) d.topic (user_of d.class) d.direction
          is.valid e i)) ∙ no_change d.way) ∙ is.change in cc)

  -- a topic without a new name has a rule
  pub differs_by : (d : Difference) → differences.IsReal Own made_old made_new d
      → HasRule plan d.topic
  differs_by d is none no_rule =
      let found = m.part.of.long d.topic (differs_in d is) none in
      let line = sym (m.part.of.lines d.topic (differs_in d is)) ∙ no_rule in
      let q : Some found.0 ≡ None = sym found.1.0 ∙ line in cc

  pub name_fault : (steps : ℕ) (d : Difference) (fault : ThroughFault)
      → differences.IsReal Own made_old made_new d → IsNameFault plan d.topic fault
      → IsThroughFault plan old new steps fault
  name_fault steps d faults.Memory is h = tt
  name_fault steps d (faults.LongName line) is h =
      let found = m.part.of.long d.topic (differs_in d is) h.1 in
      let same : Some found.0 ≡ Some line =
      sym found.1.0 ∙ sym (m.part.of.lines d.topic (differs_in d is)) ∙ h.0 in
      let at : found.0 ≡ line = cc in (
        d.topic,
        (is.valid, subst (λ (l : ℕ). HasNoName plan l d.topic) at found.1.1),
      )
  name_fault steps d (faults.OldLine line) is h = absurd h
  name_fault steps d (faults.NewLine line) is h = absurd h
  name_fault steps d (faults.OldMark line) is h = absurd h
  name_fault steps d (faults.NewMark line) is h = absurd h
  name_fault steps d (faults.Rule line) is h = absurd h
  name_fault steps d faults.NoClient is h = absurd h
  name_fault steps d faults.GaveUp is h = absurd h

  -- ---- what is made of it
  module _ (d : Difference) (r : Renamed) (is : differences.IsReal Own made_old made_new d)
      (n : IsRenamed plan old new client users d r) where
    -- it speaks of what the difference speaks of
    pub renamed_shown : (way : Way) (q : Question) → IsQuestion plan q → q.client ≡ client
        → in_region region q.topic ≡ true
        → differences.is_shown_of Own made_old made_new way q.direction client q.user q.topic d
        ≡ true → is_shown_of plan old new way q r ≡ true
    renamed_shown way q asked c e h =
        let all = and_parts (is_in (row_views made_old) (row_views made_new) q.user d.class
        && same_direction q.direction d.direction && same_way way d.way
        && same_start q.topic d.topic)
        (same_reason (reason_of Own made_old client q.user q.topic q.direction) d.old_reason
        && same_reason (reason_of Own made_new client q.user q.topic q.direction) d.new_reason) h in
        let lines = and_parts
        (same_reason (reason_of Own made_old client q.user q.topic q.direction) d.old_reason)
        (same_reason (reason_of Own made_new client q.user q.topic q.direction) d.new_reason)
        all.1 in
        let three = and_parts (is_in (row_views made_old) (row_views made_new) q.user d.class
        && same_direction q.direction d.direction && same_way way d.way)
        (same_start q.topic d.topic) all.0 in
        let two = and_parts (is_in (row_views made_old) (row_views made_new) q.user d.class
        && same_direction q.direction d.direction) (same_way way d.way) three.0 in
        let one = and_parts (is_in (row_views made_old) (row_views made_new) q.user d.class)
        (same_direction q.direction d.direction) two.0 in
        shown plan old new way q r (record {
          class = ap (is_in (row_views old) (row_views new) q.user) n.class
              ∙ class_shown (row_views old) (row_views new) (row_views made_old)
              (row_views made_new) users q.user d.class m.listed m.names one.0;
          direction = ap (same_direction q.direction) n.direction ∙ one.1;
          way = ap (same_way way) n.way ∙ two.1;
          start = ap (same_start q.topic) n.topic ∙ three.1;
          old_line = (λ i. same_reason (reason_of Own old (c i) q.user q.topic q.direction)
              (n.old_line i))
              ∙ ap (λ x. same_reason x d.old_reason)
              (sym (reason_old q.user q.topic q.direction asked.topic e)) ∙ lines.0;
          new_line = (λ i. same_reason (reason_of Own new (c i) q.user q.name q.direction)
              (n.new_line i))
              ∙ ap (λ x. same_reason x d.new_reason)
              (sym (reason_new q.user q.topic q.name q.direction asked.topic e asked.name))
              ∙ lines.1;
          rule = ap (same_line (rule_line plan q.topic)) n.rule
              ∙ ap (same_line (rule_line plan q.topic))
              (m.part.of.lines d.topic (differs_in d is)
              ∙ sym (m.part.of.lines q.topic e))
              ∙ line_itself (rule_line plan q.topic);
        })

    -- it is so
    abbrev about : Question
    about = record {
      client = client;
      user = user_of d.class;
      direction = d.direction;
      topic = d.topic;
      name = r.new_topic;
    }

    same_about : question_of r ≡ about
    same_about = (λ i. record {
      client = n.client_is i;
      user = (ap user_of n.class ∙ class_user users d.class) i;
      direction = n.direction i;
      topic = n.topic i;
      name = r.new_topic;
    })

    asked_about : IsQuestion plan about
    asked_about = record {
      client = m.client_is.id;
      user = is.user_fits;
      topic = is.valid;
      name = n.named;
    }

    pub renamed_real : IsReal plan old new r
    renamed_real =
        let e = differs_in d is in
        record {
          shown = record {
            asked = subst (IsQuestion plan) (sym same_about) asked_about;
            class = (λ i. is_in (row_views old) (row_views new)
                ((ap user_of n.class ∙ class_user users d.class) i) (n.class i))
                ∙ class_shown (row_views old) (row_views new) (row_views made_old)
                (row_views made_new) users (user_of d.class) d.class m.listed m.names is.class;
            direction = refl;
            change = (λ i. is_changed (n.way i) old new (same_about i))
                ∙ sym (change_made d.way (user_of d.class) d.topic r.new_topic d.direction is.valid
                e n.named)
                ∙ moved_change d.way refl;
            old_line = n.old_line ∙ is.old_reason ∙ moved_old
                ∙ reason_old (user_of d.class) d.topic d.direction is.valid e
                ∙ ap (old_reason old) (sym same_about);
            new_line = n.new_line ∙ is.new_reason ∙ moved_new
                ∙ reason_new (user_of d.class) d.topic r.new_topic d.direction is.valid e n.named
                ∙ ap (new_reason new) (sym same_about);
            rule = n.rule ∙ ap (rule_line plan) (sym n.topic);
          };
          marked = λ text. n.marked text
              ∙ (λ i. is_of Own text (sym n.client_is i)
              (sym (ap user_of n.class ∙ class_user users d.class) i) (sym n.topic i)
              && not (is_named_in plan old new text));
        }
      where
        -- the lists that are made decide alike about all client ids
        old_ids : (p : Access → Bool)
            → first_line p (string_bytes d.client) (user_of d.class) d.topic made_old
            ≡ first_line p client (user_of d.class) d.topic made_old
        old_ids p =
            m.old_list.same (string_bytes d.client) d.topic d.topic (user_of d.class) p is.valid
            (differs_in d is) refl
            ∙ sym (lines_old (user_of d.class) d.topic is.valid (differs_in d is) p)

        new_ids : (p : Access → Bool)
            → first_line p (string_bytes d.client) (user_of d.class) d.topic made_new
            ≡ first_line p client (user_of d.class) d.topic made_new
        new_ids p =
            m.new_list.same (string_bytes d.client) d.topic r.new_topic (user_of d.class) p is.valid
            (differs_in d is) (named d.topic r.new_topic (differs_in d is) n.named)
            ∙ sym (lines_new (user_of d.class) d.topic r.new_topic is.valid (differs_in d is)
            n.named p)

        moved_old : reason_of Own made_old (string_bytes d.client) (user_of d.class) d.topic
            d.direction ≡ reason_of Own made_old client (user_of d.class) d.topic d.direction
        moved_old = reasons.same_reasons made_old made_old (string_bytes d.client) client
            (user_of d.class) d.topic d.topic d.direction old_ids

        moved_new : reason_of Own made_new (string_bytes d.client) (user_of d.class) d.topic
            d.direction ≡ reason_of Own made_new client (user_of d.class) d.topic d.direction
        moved_new = reasons.same_reasons made_new made_new (string_bytes d.client) client
            (user_of d.class) d.topic d.topic d.direction new_ids

        moved_change : (way : Way) → way ≡ d.way
            → is_change Own way (row_views made_old) (row_views made_new) client (user_of d.class)
            d.topic d.direction ≡ true
        moved_change way w =
            change_by way (row_views made_old) (row_views made_new) client (user_of d.class) d.topic
            d.direction
            ∙ (λ i. changes way
            (sym (same_allows made_old made_old (string_bytes d.client) client (user_of d.class)
            d.topic d.topic d.direction old_ids) i)
            (sym (same_allows made_new made_new (string_bytes d.client) client (user_of d.class)
            d.topic d.topic d.direction new_ids) i))
            ∙ sym (change_by way (row_views made_old) (row_views made_new) (string_bytes d.client)
            (user_of d.class) d.topic d.direction)
            ∙ ap (λ w. is_change Own w (row_views made_old) (row_views made_new)
            (string_bytes d.client) (user_of d.class) d.topic d.direction) w
            ∙ is.change
