-- What a topic name, a topic filter and a client identifier have in common.
use Rattle.std.proofs.Common.{◌≡◌, ℕ, zero, suc, ◌<◌, ◌≤◌, true, ◌&&◌, List, [], ◌∷◌, length, IsAscii, sym, refl, ap, ◌∙◌, arith}
use Rattle.std.specs.List.{AllByRecursion}
use Rattle.std.specs.Char.{is_ascii_alphanumeric}
use Rattle.std.proofs.lemmas.Str.{chars-IsAscii, IsUtf8-from_ascii}
use Rattle.std.proofs.lemmas.Bool.{and_parts}
use Rattle.std.proofs.lemmas.Bool.Decides.{nat_tests}
use Rattle.topics.specs.Text.{allowed, every, is_text}
use Rattle.topics.specs.Levels.{levels}
use Rattle.topics.specs.Names.{NamesLaw, is_client_id, is_topic_filter, is_topic_name, lawful, max_client_id, max_topic, plain, sized}
use Rattle.topics.proofs.Laws.{plain-levels}
use Rattle.topics.proofs.Texts.{text_utf8}

-- what holds of each topic name
pub name_parts : (bs : List ℕ) → is_topic_name bs ≡ true → (0 < length bs) × (length bs ≤ 64) × (is_text bs ≡ true) × (plain bs ≡ true)
unfolding is_topic_name
name_parts bs e = (grind (arith, nat_tests), grind (arith, nat_tests), grind (arith, nat_tests), grind (arith, nat_tests))

-- of each topic filter
pub filter_parts : (bs : List ℕ) → is_topic_filter bs ≡ true → (0 < length bs) × (length bs ≤ 64) × (is_text bs ≡ true) × (lawful (levels bs) ≡ true)
unfolding is_topic_filter
filter_parts bs e = (grind (arith, nat_tests), grind (arith, nat_tests), grind (arith, nat_tests), grind (arith, nat_tests))

-- of each client identifier
pub client_parts : (bs : List ℕ) → is_client_id bs ≡ true → (0 < length bs) × (length bs ≤ 23) × (every is_ascii_alphanumeric bs ≡ true)
unfolding is_client_id
client_parts bs e = (grind (arith, nat_tests), grind (arith, nat_tests), grind (arith, nat_tests))

alnum_byte : (c : ℕ) → is_ascii_alphanumeric c ≡ true → (0 < c) × (c < 128)
alnum_byte c e = grind (arith, nat_tests)

alnum_ascii : (bs : List ℕ) → every is_ascii_alphanumeric bs ≡ true → IsAscii bs
alnum_ascii [] e i = omega arith
alnum_ascii (b ∷ bs) e zero = grind (arith, nat_tests, alnum_byte)
alnum_ascii (b ∷ bs) e (suc i) = grind (arith, nat_tests, alnum_ascii bs)

alnum_allowed : (bs : List ℕ) → every is_ascii_alphanumeric bs ≡ true → every allowed bs ≡ true
alnum_allowed [] e = refl
alnum_allowed (b ∷ bs) e = grind (arith, nat_tests, alnum_byte b, alnum_allowed bs)

pub client_text : (bs : List ℕ) → is_client_id bs ≡ true → is_text bs ≡ true
unfolding is_client_id
client_text bs e =
    let alnum = (and_parts (sized max_client_id bs) (every is_ascii_alphanumeric bs) e).1 in
    let ascii = alnum_ascii bs alnum in
    sym (text_utf8 bs (IsUtf8-from_ascii bs ascii)) ∙ ap (every allowed) (chars-IsAscii bs ascii) ∙ alnum_allowed bs alnum

plain-lawful : (ls : List (List ℕ)) → AllByRecursion (λ l. plain l ≡ true) ls → lawful ls ≡ true
plain-lawful [] h = refl
plain-lawful (l ∷ ls) h = let first = h.0 in grind (arith, plain-lawful ls h.1)

pub name_filter : (bs : List ℕ) → is_topic_name bs ≡ true → is_topic_filter bs ≡ true
unfolding is_topic_name is_topic_filter
name_filter bs e =
    let p = and_parts (sized max_topic bs && is_text bs) (plain bs) e in
    let levels_are = plain-lawful (levels bs) (plain-levels bs p.1) in
    grind arith

pub names_law : NamesLaw
names_law = record { clients = client_text; topics = name_filter }
