-- A script that is read piece by piece.
use Rattle.std.proofs.Common.{◌≡◌, ◌<◌, ◌+◌, ℕ, Option, Some, None, IfSome, List, [], ◌∷◌}
use Rattle.std.proofs.Common.{◌++◌, length, map, take, sym, ap, subst, ◌∙◌, append_assoc, append-nil}
use Rattle.std.proofs.Common.{arith, length-append}
use Rattle.std.specs.Prelude.{slice_get}
use Rattle.std.specs.Io.KnownBytes.{Consumes}
use Rattle.std.specs.List.{cons_option}
use Rattle.std.specs.Option.{option_to_list}
use Rattle.mq_acl.specs.AccessLists.{AccessList}
use Rattle.mq_world.specs.After.{replay}
use Rattle.mq_world.specs.World.{Request, empty_world}
use Rattle.mq_jsonl.specs.Lines.{command_in, kept, whole_lines}
use Rattle.mq_jsonl.specs.Feeding.{EndsLine, EndsNone, HasNext, Holds, open_line}
use Rattle.mq_jsonl.specs.declared.line_feeder.LineFeeder.{LineFeeder}
use Rattle.mq_jsonl.proofs.LongLemmas.{reading-kept}
use Rattle.mq_reach.specs.Script.{HoldsScript, TakesBytes}
use Rattle.mq_reach.specs.Search.{AreTracked, IsSearched, IsWorldOf}
use Rattle.mq_reach.specs.Subscriptions.{commands_of, fault_at, faulty_lines, subscriptions}
use Rattle.mq_reach.specs.Subscriptions.{world_of}
use Rattle.mq_reach.specs.declared.reading.Reading.{Reading}
use Rattle.mq_reach.specs.declared.search.Search.{Search}
use Rattle.mq_reach.proofs.CountLemmas.{faulty_lines-push}
use Rattle.mq_reach.proofs.GrownLemmas.{commands_of-push, grown, subscriptions-push}
use Rattle.mq_reach.proofs.StepLemmas.{makes_at}

-- a reading that takes no bytes stays as it is
pub TakesBytes-none : (list : AccessList) (r : Reading) → TakesBytes list r r []
unfolding TakesBytes
TakesBytes-none list r = λ given holds. rw append-nil holds

-- to take some bytes and then others is to take them all
pub TakesBytes-then : (list : AccessList) (p q r : Reading) (xs ys : List ℕ)
    → TakesBytes list p q xs → TakesBytes list q r ys → TakesBytes list p r (xs ++ ys)
unfolding TakesBytes
TakesBytes-then list p q r xs ys s t = λ given holds.
    subst (λ (l : List ℕ). HoldsScript list l r) (append_assoc given xs ys)
    (t (given ++ xs) (s given holds))

-- a reading whose feeder only counts more bytes is as it was
pub TakesBytes-fed : (list : AccessList) (p q : Reading) (f : LineFeeder) (xs : List ℕ)
    → open_line f ≡ open_line q.feeder → TakesBytes list p q xs
    → TakesBytes list p (record q { feeder = f }) xs
unfolding TakesBytes
TakesBytes-fed list p q f xs same s = λ given holds.
    let now = s given holds in
    record { searched = now.searched; line = same ∙ now.line }

-- ## A long line is known by its front

commands-kept : (lines : List (List ℕ)) (p : List ℕ)
    → commands_of (lines ++ take kept p ∷ []) ≡ commands_of (lines ++ p ∷ [])
commands-kept lines p =
    commands_of-push lines (take kept p)
    ∙ ap (λ said. commands_of lines ++ cons_option (command_in said) []) (reading-kept p)
    ∙ sym (commands_of-push lines p)

-- a last line makes the same if only what is kept of it is read
pub subscriptions-kept : (lines : List (List ℕ)) (p : List ℕ)
    → subscriptions (lines ++ take kept p ∷ []) ≡ subscriptions (lines ++ p ∷ [])
subscriptions-kept lines p =
    subscriptions-push lines (take kept p)
    ∙ ap (λ said. map (grown (world_of lines) (command_in said)) (subscriptions lines)
    ++ makes_at lines (command_in said)) (reading-kept p)
    ∙ sym (subscriptions-push lines p)

faulty-kept : (lines : List (List ℕ)) (p : List ℕ)
    → faulty_lines (lines ++ take kept p ∷ []) ≡ faulty_lines (lines ++ p ∷ [])
faulty-kept lines p =
    faulty_lines-push lines (take kept p)
    ∙ ap (λ said. faulty_lines lines ++ option_to_list (fault_at (length lines + 1) said))
    (reading-kept p)
    ∙ sym (faulty_lines-push lines p)

length-kept : (lines : List (List ℕ)) (p : List ℕ)
    → length (lines ++ take kept p ∷ []) ≡ length (lines ++ p ∷ [])
length-kept lines p = length-append lines (take kept p ∷ []) ∙ sym (length-append lines (p ∷ []))

IsSearched-kept : (list : AccessList) (lines : List (List ℕ)) (p : List ℕ) (s : Search)
    → IsSearched list (lines ++ take kept p ∷ []) s → IsSearched list (lines ++ p ∷ []) s
IsSearched-kept list lines p s is = record {
  is_world = subst (λ (cs : List Request). IsWorldOf (replay empty_world cs) s)
      (commands-kept lines p) is.is_world;
  tracked = subst (λ all. AreTracked list all s.tracked) (subscriptions-kept lines p) is.tracked;
  counts = record {
    lines = is.counts.lines ∙ length-kept lines p;
    commands = is.counts.commands ∙ ap length (commands-kept lines p);
    subscribed = is.counts.subscribed ∙ ap length (subscriptions-kept lines p);
    faulty = is.counts.faulty ∙ ap length (faulty-kept lines p);
    first_faulty = is.counts.first_faulty ∙ ap (λ l. slice_get l 0) (faulty-kept lines p);
  };
}

-- a line that stands behind those that are searched is searched if what is kept of it is
pub IsSearched-next : (list : AccessList) (lines all : List (List ℕ)) (f : LineFeeder)
    (p q : Search) → HasNext lines all f
    → ((before : List (List ℕ)) → IsSearched list before p
    → IsSearched list (before ++ f.line.items ∷ []) q)
    → IsSearched list lines p → IsSearched list all q
IsSearched-next list lines all f p q has step is =
    subst (λ l. IsSearched list l q) (sym has.next)
    (IsSearched-kept list lines has.line q
    (subst (λ l. IsSearched list (lines ++ l ∷ []) q) has.at_hand (step lines is)))

-- ## Bytes that are taken

-- to take bytes that end no line, it is enough to keep what is kept of them
pub TakesBytes-text : (list : AccessList) (p q : Reading) (xs : List ℕ) → q.search ≡ p.search
    → EndsNone p.feeder q.feeder xs → TakesBytes list p q xs
unfolding TakesBytes EndsNone
TakesBytes-text list p q xs search none = λ given holds.
    let more = none given holds.line in
    record { searched = rw (more.0, search) holds.searched; line = more.1 }

-- the line that they end is searched
pub TakesBytes-line : (list : AccessList) (p q : Reading) (xs : List ℕ)
    → EndsLine p.feeder q.feeder xs
    → ((before : List (List ℕ)) → IsSearched list before p.search
    → IsSearched list (before ++ q.feeder.line.items ∷ []) q.search)
    → TakesBytes list p q xs
unfolding TakesBytes EndsLine
TakesBytes-line list p q xs ends step = λ given holds.
    let more = ends given holds.line in
    record {
      searched = IsSearched-next list (whole_lines given) (whole_lines (given ++ xs)) q.feeder
          p.search q.search more.0 step holds.searched;
      line = more.1;
    }

-- ## The reader

-- a reader that shows its bytes gave no more than those
pub too_long : (a b : Option (List ℕ)) (limit : ℕ) (given : List ℕ) → Consumes a b given
    → limit < length given
    → IfSome a (λ bytes. limit < length bytes)
too_long None b limit given c over = tt
too_long (Some xs) None limit given c over = absurd c
too_long (Some xs) (Some ys) limit given c over = rw (c, length-append) (omega arith)

-- nothing is read yet
pub HoldsScript-start : (list : AccessList) (s : Search) (f : LineFeeder) → IsSearched list [] s
    → Holds [] f → HoldsScript list [] (record { search = s; feeder = f })
HoldsScript-start list s f searched none = record { searched = searched; line = none }
