-- Which client id stands for the client of a question.
use Rattle.std.proofs.Common.{◌≡◌, ◌≤◌, ◌==◌, ℕ, Bool, true, false, not, ◌&&◌}
use Rattle.std.proofs.Common.{List, [], ◌∷◌, length, refl, ap, sym, ◌∙◌, Bor}
use Rattle.std.proofs.Common.{Option, Some, None, arith}
use Rattle.std.proofs.lemmas.Bool.{and_from, and_parts, ltb-true}
use Rattle.mq_acl.specs.Access.{begins_with_dollar}
use Rattle.mq_rename.specs.Lists.{is_long}
use Rattle.mq_regions.specs.Regions.{is_mark}
use Rattle.mq_witness.specs.Clients.{can_be_id}
use Rattle.mq_witness.specs.Literals.{is_among}
use Rattle.mq_differences.specs.Classes.{can_be_user}
use Rattle.mq_through.specs.Clients.{AreTried, StandForAll, ask_client}
use Rattle.mq_through.specs.Clients.{is_named}
use Rattle.mq_through.specs.Made.{IsClient, IsComparison}
use Rattle.mq_through.specs.Through.{IsQuestion, Question}
use Rattle.mq_through.specs.declared.comparison.Comparison.{Comparison}
use Rattle.mq_through.proofs.MoveLemmas.{not_empty}
use Rattle.mq_through.proofs.TextLemmas.{IsStandIn}
use Rattle.mq_through.proofs.NamedLemmas.{named_short, short_is}
use Rattle.mq_through.proofs.StandLemmas.{standing, stands}

pub some_text : (x : List ℕ) → can_be_id x ≡ true → (length x == 0) ≡ false
some_text [] h = absurd (let q : false ≡ true = h in cc)
some_text (x ∷ xs) h = not_empty (length xs)

module _ (k : Comparison) (is : IsComparison k) (clients : List (Bor (List ℕ)))
    (tried : AreTried k clients) where
  abbrev known_in : List ℕ → Bool
  known_in t = is_named k t && not (is_mark t)

  -- it is one that lists are made for, and stands for the client of the question
  record IsFound (q : Question) : Type 0 where
    pub client : List ℕ
    pub among : is_among client clients ≡ true
    pub id : IsClient client
    pub stand : IsStandIn (λ t. is_named k t && not (is_mark t)) (ask_client k) q.client client

  module _ (q : Question) (asked : IsQuestion k.plan.now q) where
    full : (length q.client == 0) ≡ false
    full = some_text q.client asked.client

    -- any stands for it, where none is asked about
    by_any : ask_client k ≡ false → IsFound q
    by_any e =
        let one = tried.any e in
        let never = λ (g : ask_client k ≡ true). let z : true ≡ false = sym g ∙ e in z in
        record {
          client = one.0;
          among = one.1.0;
          id = one.1.1;
          stand = record {
            brief = named_short k is;
            some = full;
            other_some = some_text one.0 one.1.1.id;
            other_brief = short_is one.0 one.1.1.short;
            known = λ i g. absurd (let z : true ≡ false = never g in cc);
            unknown = λ i g. absurd (let z : true ≡ false = never g in cc);
            level = λ g i. absurd (let z : true ≡ false = never g in cc);
            begin = λ g. absurd (let z : true ≡ false = never g in cc);
          };
        }

    -- a text that nothing names stands for it, where nothing names it
    by_fresh : (dollar : Bool) → ask_client k ≡ true → known_in q.client ≡ false
        → begins_with_dollar q.client ≡ dollar → IsFound q
    by_fresh dollar asks h e =
        let one = tried.fresh asks dollar in
        let n = one.1.1 in
        record {
          client = one.0;
          among = one.1.0;
          id = n.client;
          stand = record {
            brief = named_short k is;
            some = full;
            other_some = some_text one.0 n.client.id;
            other_brief = short_is one.0 n.client.short;
            known = λ i j. absurd (let g : true ≡ false = sym i ∙ h in cc);
            unknown = λ i j. ap (λ b. b && not (is_mark one.0)) n.unnamed;
            level = λ j i. n.level;
            begin = λ j. n.begin ∙ sym e;
          };
        }

    by_itself : ask_client k ≡ true → known_in q.client ≡ true → IsFound q
    by_itself j h =
        let both = and_parts (is_named k q.client) (not (is_mark q.client)) h in
        record {
          client = q.client;
          among = tried.named j q.client both.0
              (and_from (not (is_mark q.client)) (can_be_id q.client) both.1 asked.client);
          id = record {
            plain = no_mark (is_mark q.client) both.1;
            short = long_not q.client (named_short k is q.client h);
            id = asked.client;
          };
          stand = record {
            brief = named_short k is;
            some = full;
            other_some = full;
            other_brief = named_short k is q.client h;
            known = λ i g. refl;
            unknown = λ i g. i;
            level = λ g i. absurd (let z : true ≡ false = sym h ∙ i in cc);
            begin = λ g. refl;
          };
        }
      where
        no_mark : (b : Bool) → not b ≡ true → b ≡ false
        no_mark true e = absurd (let z : false ≡ true = e in cc)
        no_mark false e = refl

        long_not : (t : List ℕ) → length t ≤ 300 → is_long t ≡ false
        long_not t e = at (is_long t) refl
          where
            at : (b : Bool) → is_long t ≡ b → b ≡ false
            at true g = absurd (let z = ltb-true 300 (length t) g in omega arith)
            at false g = refl

    found : IsFound q
    found = at (ask_client k) (known_in q.client) refl refl
      where
        at : (a n : Bool) → ask_client k ≡ a → known_in q.client ≡ n → IsFound q
        at false n i j = by_any i
        at true true i j = by_itself i j
        at true false i j = by_fresh (begins_with_dollar q.client) i j refl

    full_user : (u : Option (List ℕ)) → can_be_user u ≡ true → (x : List ℕ) → u ≡ Some x
        → (length x == 0) ≡ false
    full_user None h x e = absurd (let z : None ≡ Some x = e in cc)
    full_user (Some y) h x e = let same : y ≡ x = cc in
        ap (λ t. length t == 0) (sym same) ∙ some_text y h

  -- the clients stand for all
  pub stand_for_all : StandForAll k.plan.now k.old.now k.new.now clients
  stand_for_all q asked =
      let one = found q asked in (
        standing k is q asked one.client one.id one.stand (full_user q asked q.user asked.user),
        (
          one.among,
          stands k is q asked one.client one.id one.stand
              (full_user q asked q.user asked.user),
        ),
      )
