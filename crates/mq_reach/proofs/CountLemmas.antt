-- One more line is counted.
use Rattle.std.proofs.Common.{◌≡◌, ℕ, ◌+◌, List, [], ◌∷◌, ◌++◌, length, map, Option, Some, None, Result}
use Rattle.std.proofs.Common.{Ok, Err, refl, sym, ap, ◌∙◌, append-nil, append_assoc, arith}
use Rattle.std.proofs.Common.{length-append}
use Rattle.std.specs.Prelude.{slice_get}
use Rattle.std.specs.List.{cons_option}
use Rattle.std.specs.Option.{option_and_then, option_map, option_or, option_to_list}
use Rattle.std.proofs.lemmas.List.{length-map}
use Rattle.mq_world.specs.World.{Request, Session}
use Rattle.mq_jsonl.specs.Lines.{command_in}
use Rattle.mq_jsonl.specs.Reading.{reading}
use Rattle.mq_jsonl.specs.declared.fault.LineFault.{LineFault}
use Rattle.mq_reach.specs.Counts.{counted}
use Rattle.mq_reach.specs.Search.{AreCounted, IsWorldOf, kind_of, shown_by}
use Rattle.mq_reach.specs.Subscriptions.{Kept, commands_of, fault_at, faulty_from, faulty_lines}
use Rattle.mq_reach.specs.Subscriptions.{made_by, subscriptions, world_of}
use Rattle.mq_reach.specs.Subscriptions as spec
use Rattle.mq_reach.specs.declared.counts.Counts.{Counts}
use Rattle.mq_reach.specs.declared.search.Search.{Search}
use Rattle.mq_reach.proofs.GrownLemmas.{commands_of-push, grown, subscriptions-push}
use Rattle.mq_reach.proofs.StepLemmas.{made-shown, makes_at}

-- ## Faulty lines

faulty_from-append : (before xs ys : List (List ℕ))
    → faulty_from before (xs ++ ys) ≡ faulty_from before xs ++ faulty_from (before ++ xs) ys
faulty_from-append before [] ys = rw (append-nil before) refl
faulty_from-append before (x ∷ xs) ys =
    let here : List ℕ = option_to_list (fault_at (length before + 1) (reading x)) in
    ap (λ l. here ++ l) (faulty_from-append (before ++ x ∷ []) xs ys)
    ∙ sym (append_assoc here (faulty_from (before ++ x ∷ []) xs)
    (faulty_from ((before ++ x ∷ []) ++ xs) ys))
    ∙ ap (λ ls. (here ++ faulty_from (before ++ x ∷ []) xs) ++ faulty_from ls ys)
    (append_assoc before (x ∷ []) xs)

-- one more line adds its number to those of faulty lines if it is faulty
pub faulty_lines-push : (xs : List (List ℕ)) (y : List ℕ)
    → faulty_lines (xs ++ y ∷ []) ≡ faulty_lines xs
    ++ option_to_list (fault_at (length xs + 1) (reading y))
faulty_lines-push xs y =
    faulty_from-append [] xs (y ∷ [])
    ∙ ap (λ l. faulty_lines xs ++ l)
    (append-nil (option_to_list (fault_at (length xs + 1) (reading y))))

-- a number at the end is the first only where there was none before
first-push : (xs : List ℕ) (n : ℕ)
    → option_or (slice_get xs 0) (Some n) ≡ slice_get (xs ++ n ∷ []) 0
first-push [] n = refl
first-push (x ∷ xs) n = refl

-- ## Counts

-- these are the numbers of lines, of commands, of subscriptions and of faulty lines
record Counts_are (n : ℕ) (said : List Request) (made : ℕ) (faulty : List ℕ) (c : Counts) :
    Type 0 where
  lines : c.lines ≡ n
  commands : c.commands ≡ length said
  subscriptions : c.subscriptions ≡ made
  faulty_count : c.faulty ≡ length faulty
  first_faulty : c.first_faulty ≡ slice_get faulty 0

one_longer : {X : Type 0} (n : ℕ) (xs : List X) (x : X) → n ≡ length xs
    → n + 1 ≡ length (xs ++ x ∷ [])
one_longer n xs x e = simp length-append (omega arith)

same_length : {X : Type 0} (n : ℕ) (xs : List X) → n ≡ length xs → n ≡ length (xs ++ [])
same_length n xs e = rw (append-nil xs) e

no_more : (n m : ℕ) → n ≡ m → n ≡ m + 0
no_more n m e = omega arith

counted_command : (command : Request) (made : Option spec.Subscription) (n : ℕ)
    (said : List Request) (all : ℕ) (faulty : List ℕ) (c : Counts)
    → Counts_are n said all faulty c
    → Counts_are (n + 1) (said ++ command ∷ []) (all + length (option_to_list made))
    (faulty ++ []) (counted c (kind_of made (Ok (Some command))))
counted_command command None n said all faulty c are = record {
  lines = ap (λ (k : ℕ). k + 1) are.lines;
  commands = one_longer c.commands said command are.commands;
  subscriptions = no_more c.subscriptions all are.subscriptions;
  faulty_count = same_length c.faulty faulty are.faulty_count;
  first_faulty = rw (append-nil faulty) are.first_faulty;
}
counted_command command (Some s) n said all faulty c are = record {
  lines = ap (λ (k : ℕ). k + 1) are.lines;
  commands = one_longer c.commands said command are.commands;
  subscriptions = ap (λ (k : ℕ). k + 1) are.subscriptions;
  faulty_count = same_length c.faulty faulty are.faulty_count;
  first_faulty = rw (append-nil faulty) are.first_faulty;
}

counted_line : (said : Result (Option Request) LineFault)
    (make : Option Request → Option spec.Subscription) → make None ≡ None
    → (n : ℕ) (before : List Request) (all : ℕ) (faulty : List ℕ) (c : Counts)
    → Counts_are n before all faulty c
    → Counts_are (n + 1) (before ++ cons_option (command_in said) [])
    (all + length (option_to_list (make (command_in said))))
    (faulty ++ option_to_list (fault_at (n + 1) said))
    (counted c (kind_of (make (command_in said)) said))
counted_line (Ok (Some command)) make none n before all faulty c are =
    counted_command command (make (Some command)) n before all faulty c are
counted_line (Ok None) make none n before all faulty c are = record {
  lines = ap (λ (k : ℕ). k + 1) are.lines;
  commands = same_length c.commands before are.commands;
  subscriptions = rw none (no_more c.subscriptions all are.subscriptions);
  faulty_count = same_length c.faulty faulty are.faulty_count;
  first_faulty = rw (append-nil faulty) are.first_faulty;
}
counted_line (Err fault) make none n before all faulty c are = record {
  lines = ap (λ (k : ℕ). k + 1) are.lines;
  commands = same_length c.commands before are.commands;
  subscriptions = rw none (no_more c.subscriptions all are.subscriptions);
  faulty_count = one_longer c.faulty faulty (n + 1) are.faulty_count;
  first_faulty =
      ap (λ (k : ℕ). option_or c.first_faulty (Some (k + 1))) are.lines
      ∙ ap (λ (first : Option ℕ). option_or first (Some (n + 1))) are.first_faulty
      ∙ first-push faulty (n + 1);
}

-- ## Of a script

-- what is shown of what a line makes
abbrev pub shown_in : ℕ → List Session → Option Request → Option spec.Subscription
shown_in line sessions command = option_and_then (shown_by line sessions) command

as_many : (o : Option Kept)
    → length (option_to_list (option_map (λ (k : Kept). k.shown) o)) ≡ length (option_to_list o)
as_many None = refl
as_many (Some kept) = refl

-- as many are shown as it makes
many-shown : (lines : List (List ℕ)) (s : Search) (command : Option Request)
    → IsWorldOf (world_of lines) s → s.counts.lines ≡ length lines
    → length (option_to_list (shown_in (s.counts.lines + 1) s.sessions command))
    ≡ length (makes_at lines command)
many-shown lines s None is count = refl
many-shown lines s (Some request) is count =
    ap (λ (n : ℕ). length (option_to_list (shown_by (n + 1) s.sessions request))) count
    ∙ sym (ap (λ o. length (option_to_list o))
    (made-shown (length lines + 1) (world_of lines) s.sessions request is.sessions))
    ∙ as_many (made_by (length lines + 1) (world_of lines) request [])

many-push : (lines : List (List ℕ)) (line : List ℕ)
    → length (subscriptions (lines ++ line ∷ []))
    ≡ length (subscriptions lines) + length (makes_at lines (command_in (reading line)))
many-push lines line =
    let c : Option Request = command_in (reading line) in
    ap length (subscriptions-push lines line)
    ∙ length-append (map (grown (world_of lines) c) (subscriptions lines)) (makes_at lines c)
    ∙ ap (λ (n : ℕ). n + length (makes_at lines c))
    (length-map (subscriptions lines) (grown (world_of lines) c))

-- the counts with one more line, which is counted as what it is
pub counts-push : (lines : List (List ℕ)) (line : List ℕ) (s : Search)
    → IsWorldOf (world_of lines) s → AreCounted lines s.counts
    → AreCounted (lines ++ line ∷ []) (counted s.counts (kind_of
    (shown_in (s.counts.lines + 1) s.sessions (command_in (reading line))) (reading line)))
counts-push lines line s is counts =
    let c : Option Request = command_in (reading line) in
    let before : Counts_are (length lines) (commands_of lines) (length (subscriptions lines))
    (faulty_lines lines) s.counts = record {
      lines = counts.lines;
      commands = counts.commands;
      subscriptions = counts.subscribed;
      faulty_count = counts.faulty;
      first_faulty = counts.first_faulty;
    } in
    let after = counted_line (reading line) (shown_in (s.counts.lines + 1) s.sessions) refl
    (length lines) (commands_of lines) (length (subscriptions lines)) (faulty_lines lines) s.counts
    before in
    record {
      lines = after.lines ∙ sym (length-append lines (line ∷ []));
      commands = after.commands ∙ sym (ap length (commands_of-push lines line));
      subscribed = after.subscriptions
          ∙ ap (λ (n : ℕ). length (subscriptions lines) + n) (many-shown lines s c is counts.lines)
          ∙ sym (many-push lines line);
      faulty = after.faulty_count ∙ sym (ap length (faulty_lines-push lines line));
      first_faulty = after.first_faulty
          ∙ sym (ap (λ l. slice_get l 0) (faulty_lines-push lines line));
    }
