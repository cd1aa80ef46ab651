-- Which texts are topic names, topic filters and subscription texts, and what is wrong with the others
-- (MQTT 5.0, sections 4.7.1 to 4.7.3 and 4.8.2; the limit of 200 levels is our own).
use Rattle.std.specs.Prelude.{ℕ, Bool, List, length, ◌==◌, ◌-◌, ◌&&◌, ◌||◌, not, take, drop, nat_lt}
use Rattle.std.specs.Prelude.{nat_le, nat_eq, if◌then◌else◌, codes, Option, Some, None, Result, Ok}
use Rattle.std.specs.Prelude.{Err, true, false}
use Rattle.std.specs.Option.{option_or}
use Rattle.std.specs.List.{list_any, list_all, starts_with, before_first, after_first}
use Rattle.std.specs.Str.{bytes_eq}
use Rattle.mq_topic.specs.Levels.{levels, is_slash}
use Rattle.mq_topic.specs.declared.fault.TopicFault.{TopicFault}
use Rattle.mq_topic.specs.declared.fault.TopicFault.TheVariants.{Empty, TooLong, Nul, Wildcard}
use Rattle.mq_topic.specs.declared.fault.TopicFault.TheVariants.{Levels, Share, Memory}

abbrev pub contains_byte : ℕ → List ℕ → Bool
contains_byte b text = list_any (λ c. c == b) text

-- neither `+` nor `#`
abbrev pub is_plain : List ℕ → Bool
is_plain text = not (contains_byte 43 text) && not (contains_byte 35 text)

-- a level that contains `+` is `+`, and one that contains `#` is `#`
abbrev pub is_level : List ℕ → Bool
is_level l = (not (contains_byte 43 l) || bytes_eq l (codes "+"))
    && (not (contains_byte 35 l) || bytes_eq l (codes "#"))

-- the levels before the last
abbrev pub parents : List (List ℕ) → List (List ℕ)
parents ls = take (length ls - 1) ls

-- each wildcard is a whole level, and `#` the last one
abbrev pub wildcards_fit : List (List ℕ) → Bool
wildcards_fit ls = list_all is_level ls && list_all (λ l. not (contains_byte 35 l)) (parents ls)

-- at least 1 byte and at most 65,535, none of them 0
abbrev pub is_text : List ℕ → Bool
is_text text = nat_lt 0 (length text) && nat_le (length text) 65535 && not (contains_byte 0 text)

abbrev pub is_name : List ℕ → Bool
is_name text = is_text text && is_plain text && nat_le (length (levels text)) 200

abbrev pub is_filter : List ℕ → Bool
is_filter text = is_text text && wildcards_fit (levels text) && nat_le (length (levels text)) 200

-- the text begins with `$share/`
abbrev pub is_shared : List ℕ → Bool
is_shared text = starts_with nat_eq text (codes "$share/")

-- what follows `$share/`, up to the next slash
abbrev pub share_name : List ℕ → List ℕ
share_name text = before_first is_slash (drop 7 text)

-- what follows that slash; without `$share/`, the text
abbrev pub filter_part : List ℕ → List ℕ
filter_part text = if is_shared text then after_first is_slash (drop 7 text) else text

-- the share name, if the text is to be a shared filter
abbrev pub share_of : List ℕ → Option (List ℕ)
share_of text = if is_shared text then Some (share_name text) else None

-- a nonempty share name without wildcards, and a filter part
abbrev pub share_fits : List ℕ → List ℕ → Bool
share_fits share filter = nat_lt 0 (length share) && is_plain share && nat_lt 0 (length filter)

abbrev pub is_subscription : List ℕ → Bool
is_subscription text = is_text text
    && (not (is_shared text) || share_fits (share_name text) (filter_part text))
    && is_filter (filter_part text)

-- more than 200 levels
abbrev pub is_deep : List ℕ → Bool
is_deep text = nat_lt 200 (length (levels text))

-- the first fault of a text, where its wildcards fit or not, and with too many levels or not
abbrev pub first_fault : List ℕ → Bool → Bool → Option TopicFault
first_fault text fit deep =
    if length text == 0 then Some Empty
    else (if nat_lt 65535 (length text) then Some TooLong
    else (if contains_byte 0 text then Some Nul
    else (if not fit then Some Wildcard
    else (if deep then Some Levels
    else None))))

abbrev pub name_fault : List ℕ → Option TopicFault
name_fault text = first_fault text (is_plain text) (is_deep text)

abbrev pub filter_fault : List ℕ → Option TopicFault
filter_fault text = first_fault text (wildcards_fit (levels text)) (is_deep text)

-- of a shared text the wildcards and the levels of the filter part count
abbrev pub subscription_fault : List ℕ → Option TopicFault
subscription_fault text =
    option_or (first_fault text (wildcards_fit (levels (filter_part text)))
    (is_deep (filter_part text)))
    (if is_shared text && not (share_fits (share_name text) (filter_part text)) then
    Some Share else None)

abbrev pub is_memory : TopicFault → Bool
is_memory Memory = true
is_memory fault = false

-- what a parse's fault says of the text: lack of memory, that it has none
abbrev pub of_text : TopicFault → Option TopicFault
of_text fault = if is_memory fault then None else Some fault

-- the parse took the text for valid
abbrev pub accepts : {X : Type 0} → Result X TopicFault → Bool
accepts (Ok x) = true
accepts (Err fault) = is_memory fault
