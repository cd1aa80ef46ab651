-- What a line feeder makes of the bytes that it is given.
use Rattle.std.proofs.Common.{◌≡◌, ◌≤◌, ◌+◌, ◌-◌, ℕ, List, [], ◌∷◌, ◌++◌, length, take, sym, ap}
use Rattle.std.proofs.Common.{subst, ◌∙◌, append_assoc, append-nil, length-append, arith}
use Rattle.std.proofs.lemmas.List.{take_all}
use Rattle.mq_jsonl.specs.Lines.{all_lines, kept, last_piece, piece_line, pieces, whole_lines}
use Rattle.mq_jsonl.specs.Feeding.{EndsLine, EndsNone, HasNext, Holds, open_line}
use Rattle.mq_jsonl.specs.declared.line_feeder.LineFeeder.{LineFeeder}
use Rattle.mq_jsonl.proofs.LongLemmas.{kept_more, no_piece, some_piece}
use Rattle.mq_jsonl.proofs.PieceLemmas.{last_piece-feed, last_piece-text, whole_lines-feed}
use Rattle.mq_jsonl.proofs.PieceLemmas.{whole_lines-text}

-- nothing is given, and nothing is kept
pub Holds-nothing : (f : LineFeeder) → open_line f ≡ [] → Holds [] f
Holds-nothing f none = none ∙ sym (take_all kept [] (omega arith))

-- some bytes have no line feed, and the line that is kept has grown by as many as have room
pub record HasJoined (old : LineFeeder) (xs more : List ℕ) (n : ℕ) : Type 0 where
  pub room : kept ≡ n
  pub one : pieces xs ≡ xs ∷ []
  pub grown : more ≡ open_line old ++ take (n - length (open_line old)) xs

joined_line : (given : List ℕ) (old : LineFeeder) (xs more : List ℕ) (n : ℕ) → Holds given old
    → HasJoined old xs more n → more ≡ take kept (last_piece given ++ xs)
joined_line given old xs more n holds joined =
    joined.grown
    ∙ subst (λ (k : ℕ). open_line old ++ take (k - length (open_line old)) xs
    ≡ take kept (last_piece given ++ xs)) joined.room
    (kept_more (open_line old) (last_piece given) xs holds)

-- such bytes end no line
pub EndsNone-text : (old new : LineFeeder) (xs : List ℕ) (n : ℕ)
    → HasJoined old xs (open_line new) n → EndsNone old new xs
unfolding EndsNone
EndsNone-text old new xs n joined = λ given holds. (
  whole_lines-text given xs joined.one,
  joined_line given old xs (open_line new) n holds joined
      ∙ ap (take kept) (sym (last_piece-text given xs joined.one)),
)

-- a line feed behind them does
pub EndsLine-feed : (old new : LineFeeder) (xs : List ℕ) (n : ℕ)
    → HasJoined old xs new.line.items n → open_line new ≡ [] → EndsLine old new (xs ++ 10 ∷ [])
unfolding EndsLine
EndsLine-feed old new xs n joined none = λ given holds.
    let same : given ++ (xs ++ 10 ∷ []) ≡ (given ++ xs) ++ 10 ∷ [] =
    sym (append_assoc given xs (10 ∷ [])) in (
      record {
        line = last_piece given ++ xs;
        next =
            ap whole_lines same ∙ whole_lines-feed (given ++ xs)
            ∙ ap (λ l. l ++ last_piece (given ++ xs) ∷ []) (whole_lines-text given xs joined.one)
            ∙ ap (λ l. whole_lines given ++ l ∷ []) (last_piece-text given xs joined.one);
        at_hand = joined_line given old xs new.line.items n holds joined;
      },
      none ∙ sym (take_all kept [] (omega arith))
          ∙ ap (take kept) (sym (ap last_piece same ∙ last_piece-feed (given ++ xs))),
    )

-- where nothing is kept, all lines are whole
pub no_last : (given : List ℕ) (f : LineFeeder) → open_line f ≡ [] → Holds given f
    → all_lines given ≡ whole_lines given
no_last given f none holds =
    ap (λ l. whole_lines given ++ piece_line l) (no_piece (last_piece given) (sym holds ∙ none))
    ∙ append-nil (whole_lines given)

-- else the last piece is a line more
pub has_last : (given : List ℕ) (f : LineFeeder) → f.line.items ≡ take kept (last_piece given)
    → (f.line.items ≡ [] → ⊥) → HasNext (whole_lines given) (all_lines given) f
has_last given f holds some = record {
  line = last_piece given;
  next =
      ap (λ l. whole_lines given ++ l)
      (some_piece (last_piece given) f.line.items holds some);
  at_hand = holds;
}

-- ## The limit

-- bytes that are counted were given, and so many fewer may come
pub counted_more : (given xs : List ℕ) (n room left limit : ℕ) → length given + room ≡ limit
    → length xs ≡ n → left + n ≡ room → length (given ++ xs) + left ≡ limit
counted_more given xs n room left limit so_far count less = rw length-append (omega arith)

-- they end no more lines than they are
pub lines_more : (was kept was_kept now_kept lines n room left limit : ℕ)
    → was + was_kept + room ≤ limit → kept ≡ was_kept → lines + now_kept ≤ was + kept + n
    → left + n ≡ room → lines + now_kept + left ≤ limit
lines_more was kept was_kept now_kept lines n room left limit so_far same more less = omega arith
