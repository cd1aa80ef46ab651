-- The client id beside a topic.
use Rattle.std.proofs.Common.{◌≡◌, ◌++◌, ◌∙◌, ℕ, Bool, true, false, List, [], Option, Some, None, IfSome}
use Rattle.std.proofs.Common.{ap, append_assoc, append-nil, codes, if◌then◌else◌, refl, string_bytes}
use Rattle.std.proofs.Common.{sym, unwrap_or}
use Rattle.std.specs.Fmt.{debug_str}
use Rattle.mq_ask_cases.specs.Placeholders.{AddsClient, IsQuoted, has_placeholder, is_placeholder}
use Rattle.mq_ask_cases.specs.Placeholders.{topic_words}
use Rattle.mq_differences.specs.declared.difference.Difference.{Difference}

quoted_so : (shown : Option (List ℕ)) → IfSome shown (λ ascii. unwrap_or shown [] ≡ ascii)
quoted_so None = tt
quoted_so (Some ascii) = refl

-- how the client id is shown, where it isn't any
shown_as : Difference → (quoted : List ℕ) → (made : Bool) → List ℕ
shown_as d quoted made = if made then topic_words d (string_bytes d.client) else quoted

-- what stands behind a text
words_behind : (text shown : List ℕ) (hidden : Bool) → List ℕ
words_behind text shown hidden = text ++ (if hidden then [] else codes "  client id: " ++ shown)

-- nothing is added for a placeholder
pub none_added : (d : Difference) (text : List ℕ) → is_placeholder d (string_bytes d.client) ≡ true
    → AddsClient d text text
unfolding shown_as words_behind
none_added d text is =
    let quoted = unwrap_or (debug_str (string_bytes d.client)) [] in
    record {
      quoted = quoted;
      is_quoted = quoted_so (debug_str (string_bytes d.client));
      added = sym (append-nil text) ∙ ap (words_behind text
          (shown_as d quoted (has_placeholder d (string_bytes d.client)))) (sym is);
    }

shown_added : (d : Difference) (before after quoted : List ℕ) (made : Bool)
    → is_placeholder d (string_bytes d.client) ≡ false
    → has_placeholder d (string_bytes d.client) ≡ made → IsQuoted (string_bytes d.client) quoted
    → after ≡ before ++ codes "  client id: " ++ shown_as d quoted made
    → AddsClient d before after
unfolding shown_as words_behind
shown_added d before after quoted made is has quotes named = record {
  quoted = quoted;
  is_quoted = quotes;
  added = named ∙ append_assoc before (codes "  client id: ") (shown_as d quoted made)
      ∙ ap (λ (m : Bool). words_behind before (shown_as d quoted m) false) (sym has)
      ∙ ap (words_behind before (shown_as d quoted (has_placeholder d (string_bytes d.client))))
      (sym is);
}

-- the client id is added where it stands for itself alone
pub client_added : (d : Difference) (before after quoted : List ℕ)
    → is_placeholder d (string_bytes d.client) ≡ false
    → has_placeholder d (string_bytes d.client) ≡ false → IsQuoted (string_bytes d.client) quoted
    → after ≡ before ++ codes "  client id: " ++ quoted → AddsClient d before after
unfolding shown_as
client_added d before after quoted is has quotes named =
    shown_added d before after quoted false is has quotes named

-- and else its levels
pub levels_added : (d : Difference) (before after : List ℕ)
    → is_placeholder d (string_bytes d.client) ≡ false
    → has_placeholder d (string_bytes d.client) ≡ true
    → after ≡ before ++ codes "  client id: " ++ topic_words d (string_bytes d.client)
    → AddsClient d before after
unfolding shown_as
levels_added d before after is has named =
    shown_added d before after (unwrap_or (debug_str (string_bytes d.client)) []) true is has
    (quoted_so (debug_str (string_bytes d.client))) named
