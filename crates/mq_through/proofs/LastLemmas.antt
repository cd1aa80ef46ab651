-- What is shown for one client holds for another for whom the same lists are made.
use Rattle.std.proofs.Common.{◌≡◌, ◌∙◌, ◌&&◌, ℕ, Bool, true, false, cond, List, [], ◌∷◌, refl, ap, sym}
use Rattle.std.proofs.Common.{Option, Some, None, length, arith}
use Rattle.std.specs.Prelude.{find}
use Rattle.std.specs.List.{list_any}
use Rattle.std.specs.Option.{option_map}
use Rattle.mq_acl.specs.Access.{concerns}
use Rattle.mq_acl.specs.Lines.{Access}
use Rattle.mq_acl.specs.Rows.{AclRow}
use Rattle.mq_acl.specs.Views.{row_view}
use Rattle.mq_acl.specs.declared.row.Row.{Row}
use Rattle.mq_differences.specs.Classes.{is_in}
use Rattle.mq_differences.specs.Differences.{same_direction, same_reason, same_start, same_way}
use Rattle.mq_differences.specs.Reasons.{is_grant}
use Rattle.mq_differences.specs.declared.reason.Reason.{Reason}
use Rattle.mq_differences.specs.declared.way.Way.{Way}
use Rattle.mq_acl.specs.Views.{row_views}
use Rattle.mq_regions.specs.Deciding.{decides, first_line}
use Rattle.mq_regions.specs.Regions.{in_region, name_in}
use Rattle.mq_regions.specs.declared.region.Region.{Region}
use Rattle.mq_through.specs.Made.{AreAlike, IsClient, IsMade}
use Rattle.mq_through.specs.Parts.{IsPart}
use Rattle.mq_through.specs.Through.{IsQuestion, Question, changes, is_shown_of, new_allows}
use Rattle.mq_through.specs.Through.{new_reason, old_allows, old_reason, rule_line, same_line}
use Rattle.mq_through.specs.Tried.{IsLastMade, IsTried, ShowsChangesIn}
use Rattle.mq_through.specs.declared.comparison.Comparison.{Comparison}
use Rattle.mq_through.specs.declared.made.Made.{Made}
use Rattle.mq_through.specs.declared.renamed.Renamed.{Renamed}
use Rattle.mq_through.proofs.ReasonLemmas.{allows_by_reason, same_by_lines}

-- the same question of another client
asked_by : List ℕ → Question → Question
asked_by client q = record {
  client = client;
  user = q.user;
  direction = q.direction;
  topic = q.topic;
  name = q.name;
}

shown_for : (k : Comparison) (way : Way) (q : Question) (old new : Reason) (all : List Renamed)
    → Bool
shown_for k way q old new all = list_any (λ r. is_in (row_views k.old.now) (row_views k.new.now) q.user
    r.difference.class
    && same_direction q.direction r.difference.direction
    && same_way way r.difference.way && same_start q.topic r.difference.topic
    && same_reason old r.difference.old_reason && same_reason new r.difference.new_reason
    && same_line (rule_line k.plan.now q.topic) r.rule) all

pub shown_again : (k : Comparison) (region : Region) (b c : List ℕ) (m n : Made)
    (all : List Renamed) → IsPart k.plan.now region → IsClient b → IsMade k region b m
    → IsMade k region c n → AreAlike region m n
    → ShowsChangesIn k.plan.now k.old.now k.new.now region b all
    → ShowsChangesIn k.plan.now k.old.now k.new.now region c all
unfolding asked_by shown_for
shown_again k region b c m n all part can made made_c alike shows way q asked is inside changed =
    (λ i. shown_for k way q (old_is i) (new_is i) all)
    ∙ shows way (asked_by b q) (record {
      client = can.id;
      user = asked.user;
      topic = asked.topic;
      name = asked.name;
    }) refl inside ((λ i. changes way (sym old_may i) (sym new_may i)) ∙ changed)
  where
    named : name_in region q.topic ≡ Some q.name
    named = part.of.names q.topic inside ∙ asked.name

    old_lines : (p : Access → Bool) → first_line p q.client q.user q.topic k.old.now
        ≡ first_line p b q.user q.topic k.old.now
    old_lines p = ap (λ (x : List ℕ). first_line p x q.user q.topic k.old.now) is
        ∙ sym (made_c.old_list.same c q.topic q.topic q.user p asked.topic inside refl)
        ∙ sym (alike.old_lines c q.topic q.user p asked.topic inside)
        ∙ made.old_list.same c q.topic q.topic q.user p asked.topic inside refl

    new_lines : (p : Access → Bool) → first_line p q.client q.user q.name k.new.now
        ≡ first_line p b q.user q.name k.new.now
    new_lines p = ap (λ (x : List ℕ). first_line p x q.user q.name k.new.now) is
        ∙ sym (made_c.new_list.same c q.topic q.name q.user p asked.topic inside named)
        ∙ sym (alike.new_lines c q.topic q.user p asked.topic inside)
        ∙ made.new_list.same c q.topic q.name q.user p asked.topic inside named

    old_is : old_reason k.old.now q ≡ old_reason k.old.now (asked_by b q)
    old_is = same_by_lines k.old.now q.client b q.user q.user q.topic q.topic q.direction old_lines

    new_is : new_reason k.new.now q ≡ new_reason k.new.now (asked_by b q)
    new_is = same_by_lines k.new.now q.client b q.user q.user q.name q.name q.direction new_lines

    old_may : old_allows k.old.now q ≡ old_allows k.old.now (asked_by b q)
    old_may = allows_by_reason k.old.now q.client q.user q.topic q.direction ∙ ap is_grant old_is
        ∙ sym (allows_by_reason k.old.now b q.user q.topic q.direction)

    new_may : new_allows k.new.now q ≡ new_allows k.new.now (asked_by b q)
    new_may = allows_by_reason k.new.now q.client q.user q.name q.direction ∙ ap is_grant new_is
        ∙ sym (allows_by_reason k.new.now b q.user q.name q.direction)

-- so it is of the lists that were made last
pub tried_again : (k : Comparison) (region : Region) (last : Option Made) (c : List ℕ) (n : Made)
    (all : List Renamed) → IsPart k.plan.now region → IsTried k region last all
    → IsLastMade region last n → IsMade k region c n
    → ShowsChangesIn k.plan.now k.old.now k.new.now region c all
tried_again k region None c n all part tried same made = absurd same
tried_again k region (Some m) c n all part tried same made =
    shown_again k region tried.0 c m n all part tried.1 tried.2 made same tried.3
