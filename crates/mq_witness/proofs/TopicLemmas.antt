-- The topics of one client.
use Rattle.std.proofs.Common.{◌≡◌, ℕ, Bool, true, false, cond, ◌&&◌, List, length, Option, Some}
use Rattle.std.proofs.Common.{None, codes, bytes_eq, refl, ap, sym, ◌∙◌, subst, inl, inr}
use Rattle.std.specs.List.{list_all}
use Rattle.std.proofs.lemmas.Bool.{and_from, and_left, and_parts, cases_Bool, cond_both, leb-true}
use Rattle.mq_topic.specs.Levels.{levels}
use Rattle.mq_topic.specs.Matching.{level_matches}
use Rattle.mq_topic.specs.Texts.{is_name}
use Rattle.mq_acl.specs.Access.{begins_with_dollar}
use Rattle.mq_acl.specs.Rows.{AclRow}
use Rattle.mq_acl.specs.declared.rules.Rules.{Rules}
use Rattle.mq_cover.specs.Names.{can_be_level, is_choice}
use Rattle.mq_cover.specs.Remainders.{FindsNothing, fits, hits, mark_passes, MarkLevels, passes}
use Rattle.mq_cover.specs.declared.remainder.Remainder.{Remainder}
use Rattle.mq_witness.specs.Answers.{Asks, IsHit}
use Rattle.mq_witness.specs.Decided.{decides}
use Rattle.mq_witness.specs.Fresh.{is_literal}
use Rattle.mq_witness.specs.FreshTexts.{AreLonger, AreShort, IsPadded, IsSeen}
use Rattle.mq_witness.specs.Limits.{is_short, is_short_level, usable}
use Rattle.mq_witness.specs.Names.{are_begun, has_front, is_one_of, is_right, names_readable}
use Rattle.mq_witness.specs.Names.{start_at}
use Rattle.mq_witness.specs.Roots.{NoneConcerned, marks_of, rows_fit}
use Rattle.mq_witness.specs.Texts.{level_of}
use Rattle.mq_witness.specs.Topics.{AreWithin, FindsNoTopic, IsReadyFor, IsTopic, IsTopicOf}
use Rattle.mq_witness.specs.Topics.{level_marks}
use Rattle.mq_witness.specs.declared.fresh.Fresh.{Fresh}
use Rattle.mq_witness.specs.declared.names.Names.{Names}
use Rattle.mq_witness.specs.declared.names.Names.TheVariants.{Plain}
use Rattle.mq_witness.specs.declared.question.Question.{Question}
use Rattle.mq_witness.specs.declared.texts.FreshTexts.{FreshTexts}
use Rattle.mq_witness.proofs.AnswerLemmas.{alike_self, same_user}
use Rattle.mq_witness.proofs.FreshLemmas.{client_begins, named_is_literal, seen_fresh}
use Rattle.mq_witness.proofs.FreshMoves.{literal_is_choice}
use Rattle.mq_witness.proofs.LiteralLemmas.{fits_mono}
use Rattle.mq_witness.proofs.MoveLemmas.{hits_same}
use Rattle.mq_witness.proofs.TestLemmas.{all_by}
use Rattle.mq_witness.proofs.FrontLemmas.{begun_one, front_begun, one_begun, plain_readable}
use Rattle.mq_witness.proofs.FrontLemmas.{readable_is, readable_taken, suits_front}
use Rattle.mq_witness.proofs.NameLemmas.{name_is}
use Rattle.mq_witness.proofs.ReadyLemmas.{short_is_name}

-- ---- ids that can't be levels
both_passes : (pattern : Bool) (client : List ℕ) (user : Option (List ℕ)) (w l : List ℕ)
    → can_be_level l ≡ true → passes pattern (marks_of client user) w l
    ≡ passes pattern (level_marks client user) w l
both_passes pattern client user w l h =
    (λ i. cond (pattern && bytes_eq w (codes "%c")) (same_user (Some client) l h i)
    (cond (pattern && bytes_eq w (codes "%u")) (same_user user l h i) (level_matches w l)))

pub marks_are : (c u : Option (List ℕ)) (client : List ℕ) (user : Option (List ℕ))
    → c ≡ level_of (Some client) → u ≡ level_of user
    → record { client = c; user = u } ≡ level_marks client user
marks_are c u client user e g = λ i. record { client = e i; user = g i }

-- whether a name is hit depends on the ids only as levels, where they can be such
both_hits : (client : List ℕ) (user : Option (List ℕ)) (ls : List (List ℕ))
    → list_all can_be_level ls ≡ true → (must cover : List Remainder)
    → hits (marks_of client user) ls must cover ≡ hits (level_marks client user) ls must cover
both_hits client user ls can =
    hits_same can_be_level (marks_of client user) (level_marks client user)
    (λ pattern. both_passes pattern client user) ls can

-- ---- what a question answers
-- where a row concerns none of the names
pub no_topic : (client : List ℕ) (user : Option (List ℕ)) (names : Names)
    (must cover : List AclRow) → NoneConcerned false must user (are_begun names) → (name : List ℕ)
    → is_name name ≡ true → is_one_of names name ≡ true
    → decides client user name must cover ≡ false
no_topic client user names must cover none name valid kind =
    and_left _ _ (none client name user (alike_self user must) (one_begun names name kind))

module _ {f : Fresh} (client : List ℕ) {user : Option (List ℕ)} {names : Names}
    {must cover : List AclRow} {q : Question}
    (asks : Asks false (record { plain = f; dollar = f }) user names must cover q) where
  decided_is : (name : List ℕ) → is_name name ≡ true → begins_with_dollar name ≡ are_begun names
      → (is_right names name && decides client user name must cover)
      ≡ hits (level_marks client user) (levels name) q.must.items q.cover.items
  decided_is name valid begun =
      sym (asks.decides client name user (alike_self user must) (alike_self user cover) begun)
      ∙ both_hits client user (levels name) (name_is name valid).can q.must.items q.cover.items

  pub topic_missed : (marks : MarkLevels) → marks ≡ level_marks client user
      → FindsNothing (start_at q.names) 200 marks q.must.items q.cover.items → (name : List ℕ)
      → is_name name ≡ true → is_one_of names name ≡ true
      → decides client user name must cover ≡ false
  topic_missed marks e misses name valid kind =
      let is = name_is name valid in
      let parts = and_parts (has_front names name) _ kind in
      ap (λ b. b && decides client user name must cover) (sym parts.1)
      ∙ decided_is name valid (front_begun names name parts.0)
      ∙ ap (λ (m : MarkLevels). hits m (levels name) q.must.items q.cover.items) (sym e)
      ∙ misses (levels name)
      (suits_front q.names name is.some ∙ ap (λ n. has_front n name) asks.kind ∙ parts.0) is.few

  pub topic_hit : (marks : MarkLevels) → marks ≡ level_marks client user → (name : List ℕ)
      → IsHit q marks name → IsTopicOf names client user must cover name
  topic_hit marks e name h =
      let front_is = ap (λ n. has_front n name) (sym asks.kind) ∙ h.kind in
      let parts = and_parts (is_right names name) _
      (decided_is name h.valid (front_begun names name front_is)
      ∙ ap (λ (m : MarkLevels). hits m (levels name) q.must.items q.cover.items) (sym e)
      ∙ h.hit) in
      record {
        valid = h.valid;
        is_one = and_from _ _ front_is parts.0;
        decided = parts.1;
      }

-- ---- longer texts
short_size : AreShort is_short
short_size l h = leb-true (length l) 300 h

module _ (longest : FreshTexts) (f : Fresh) (longer : AreLonger longest)
    (seen : IsSeen longest f) where
  short_literal : (l : List ℕ) → is_short_level l ≡ true → is_literal f l ≡ true
  short_literal l h = named_is_literal false longest f is_short short_size (longer is_short) seen l
      (short_is_name l h) (and_parts _ _ h).1

  short_rows : (rows : List AclRow) → rows_fit is_short_level rows ≡ true
      → rows_fit (is_literal f) rows ≡ true
  short_rows rows = all_by (λ row. fits is_short_level (levels row.filter))
      (λ row. fits (is_literal f) (levels row.filter))
      (λ row. fits_mono is_short_level (is_literal f) (levels row.filter) short_literal) rows

  short_mark : (user : Option (List ℕ)) → mark_passes is_short user ≡ true
      → mark_passes (is_choice f.others) (level_of user) ≡ true
  short_mark None h = refl
  short_mark (Some u) h =
      cond_both (can_be_level u) _ _ (λ m. mark_passes (is_choice f.others) m ≡ true)
      (λ e. literal_is_choice f u (short_literal u (and_from _ _ e h))) (λ e. refl)

  -- what keeps to the limit names none of them
  pub ready_for : (client : List ℕ) (user : Option (List ℕ)) (must cover : List AclRow)
      → AreWithin client user must → list_all usable cover ≡ true
      → IsReadyFor f client user must cover
  ready_for client user must cover within cover_usable = record {
    names_none = record {
      fresh = seen_fresh false longest f is_short (longer is_short) seen;
      must_fits = short_rows must within.must_short;
      cover_fits = short_rows cover (all_by usable (λ row. fits is_short_level (levels row.filter))
          (λ row h. (and_parts _ _ h).0) cover cover_usable);
    };
    begin = client_begins false f.client.now
        (subst (IsPadded (codes "client")) (sym seen.client) (longer is_short).client.made);
    marks_fit = and_from _ _ (short_mark (Some client) within.client_short)
        (short_mark user within.user_short);
  }

-- ---- both kinds of names
pub both_kinds : (rules : Rules) (names : Names) (client : List ℕ) (user : Option (List ℕ))
    (must cover : List AclRow) → names ≡ names_readable rules → ((name : List ℕ) → is_name name ≡ true → is_one_of Plain name ≡ true
    → decides client user name must cover ≡ false)
    → ((name : List ℕ) → is_name name ≡ true → is_one_of names name ≡ true
    → decides client user name must cover ≡ false)
    → FindsNoTopic rules client user must cover
both_kinds rules names client user must cover are plain begun name valid taken =
    elim (cases_Bool (begins_with_dollar name)) [
      | inl e ↦ begun name valid (ap (λ n. is_one_of n name) are ∙ readable_is rules name e taken)
      | inr e ↦ plain name valid (begun_one false name e)
    ]

pub plain_topic : (rules : Rules) {client : List ℕ} {user : Option (List ℕ)}
    {must cover : List AclRow} {name : List ℕ} → IsTopicOf Plain client user must cover name
    → IsTopic rules client user must cover name
plain_topic rules {name = name} h = record {
  valid = h.valid;
  taken = plain_readable rules name h.is_one;
  decided = h.decided;
}

pub readable_topic : (rules : Rules) (names : Names) {client : List ℕ} {user : Option (List ℕ)}
    {must cover : List AclRow} {name : List ℕ} → names ≡ names_readable rules
    → IsTopicOf names client user must cover name → IsTopic rules client user must cover name
readable_topic rules names {name = name} are h = record {
  valid = h.valid;
  taken = readable_taken rules name (ap (λ n. is_one_of n name) (sym are) ∙ h.is_one);
  decided = h.decided;
}
