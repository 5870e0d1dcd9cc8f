-- The transition tables of a trigger are printed freely.
use Rattle.std.proofs.Common.{◌≡◌, true, not, List, [], ◌∷◌, ◌++◌, map, flat_map, Option, Some, None, inl, inr, refl, sym, ap, ◌∙◌, subst, codes}
use Rattle.std.proofs.lemmas.List.{append-nil}
use Rattle.std.specs.Char.{to_ascii_lowercase}
use Rattle.aq_base.specs.Names.{Text as Bytes, same_text}
use Rattle.aq_base.specs.declared.trigger.Transition.{Transition}
use Rattle.aq_base.specs.declared.trigger.Transition.TheVariants.{Old, New}
use Rattle.aq_base.specs.declared.trigger.TransitionTable.{TransitionTable}
use Rattle.aq_lex.specs.Lexemes.{PlacedLexeme}
use Rattle.aq_grammar.specs.Terminals.{Terminal, Keyword, NameBut, text_of}
use Rattle.aq_grammar.specs.Rules.{Rule, Done, Token, Both, Either, Differing}
use Rattle.aq_grammar.specs.Forms.{word, ◌▸◌, ◌◂◌, optional, name}
use Rattle.aq_grammar.specs.Triggers.{table_as, transitions_of, transition_tables, referencing}
use Rattle.aq_texts.specs.Written.{Written, Said, say, Name}
use Rattle.aq_texts.specs.Canon as canon
use Rattle.aq_texts.specs.Canon.{perhaps}
use Rattle.aq_forms.proofs.Sound.{is_folded_word}
use Rattle.aq_forms.proofs.Laid.{laid, past, laid_append}
use Rattle.aq_forms.proofs.Derived.{DerivesSome, Derives}
use Rattle.aq_forms.proofs.Combining.{IsFree, Anything, done_free, token_free, word_free, both_any, then_free, behind_word, before_free, left_free, right_free, some_free, none_free}
use Rattle.aq_forms.proofs.Names.{IsNamed, name_named, name_free, name_fits, name_sound, name_text_is, derived_name}

-- ---- a rule whose second name differs from the first

-- behind what introduces it
abbrev other_name : {B : Type 0} → Rule B → Bytes → Rule (Option Bytes)
other_name b first = Both (λ introduced text. Some text) b (Token (NameBut first) text_of)

alone_free :
    {A B C : Type 0} (f : A → Option Bytes → C) (a : Rule A) (name_of : A → Bytes) (kinds : List Terminal) (b : Rule B) (x : A) (ws : List Written)
    (Behind : List PlacedLexeme → Type 0) → IsFree a x ws Behind → IsFree (Differing f a name_of kinds b) (f x None) ws Behind
alone_free f a name_of kinds b x ws Behind free lines at rest behind =
    (laid lines at ws, [], x, None, free lines at rest behind, inl (refl, refl), sym (append-nil (laid lines at ws)), refl)

differing_free :
    {A B C : Type 0} (f : A → Option Bytes → C) (a : Rule A) (name_of : A → Bytes) (kinds : List Terminal) (b : Rule B) (x : A) (text : Bytes) (ws vs : List Written)
    (Behind : List PlacedLexeme → Type 0) → IsFree a x ws Anything → IsFree (other_name b (name_of x)) (Some text) vs Behind
    → IsFree (Differing f a name_of kinds b) (f x (Some text)) (ws ++ vs) Behind
differing_free f a name_of kinds b x text ws vs Behind free other lines at rest behind = (
  laid lines at ws,
  laid lines (past at ws) vs,
  x,
  Some text,
  free lines at (laid lines (past at ws) vs ++ rest) tt,
  inr (other lines (past at ws) rest behind),
  laid_append lines at ws vs,
  refl,
)

-- ---- the old and the new table

-- AS is always printed
table_as_free :
    (printed text : Bytes) (Behind : List PlacedLexeme → Type 0) → is_folded_word (map to_ascii_lowercase printed) ≡ true
    → same_text (map to_ascii_lowercase printed) text ≡ true → IsFree (table_as text) tt (Said printed ∷ say (codes "TABLE") ∷ say (codes "AS") ∷ []) Behind
table_as_free printed text Behind folded same =
    behind_word printed text (word (codes "table") ◂ optional (Keyword (codes "as") ∷ []) (word (codes "as"))) tt (say (codes "TABLE") ∷ say (codes "AS") ∷ []) Behind folded same
    (before_free (word (codes "table")) (optional (Keyword (codes "as") ∷ []) (word (codes "as"))) tt (Some tt) (say (codes "TABLE") ∷ []) (say (codes "AS") ∷ []) Anything Behind
    (word_free (codes "TABLE") (codes "table") Anything refl refl)
    (some_free (Keyword (codes "as") ∷ []) (word (codes "as")) tt (say (codes "AS") ∷ []) Behind (word_free (codes "AS") (codes "as") Behind refl refl))
    (λ lines at rest behind. tt))

-- one of them, and perhaps the other
abbrev tables : Transition → Bytes → Transition → Bytes → Rule (List TransitionTable)
tables first first_text second second_text =
    Differing (transitions_of first second) (table_as first_text ▸ name) (λ text. text) (Keyword second_text ∷ []) (table_as second_text)

abbrev tables_tokens : List TransitionTable → List Written
tables_tokens found = flat_map canon.transition_table found

abbrev one_table_tokens : Bytes → Bytes → List Written
one_table_tokens printed text = Said printed ∷ say (codes "TABLE") ∷ say (codes "AS") ∷ Name text ∷ []

-- how the one and the other are printed
record Words (first : Transition) (first_text : Bytes) : Type 0 where
  printed : Bytes
  is : canon.transition first ≡ Said printed
  folded : is_folded_word (map to_ascii_lowercase printed) ≡ true
  same : same_text (map to_ascii_lowercase printed) first_text ≡ true

first_table_free : (first : Transition) (first_text text : Bytes) (Behind : List PlacedLexeme → Type 0) (words : Words first first_text) → IsNamed text
    → IsFree (table_as first_text ▸ name) text (one_table_tokens words.printed text) Behind
first_table_free first first_text text Behind words named =
    then_free (table_as first_text) name tt text (Said words.printed ∷ say (codes "TABLE") ∷ say (codes "AS") ∷ []) (Name text ∷ []) Behind
    (table_as_free words.printed first_text Anything words.folded words.same) (name_free text Behind named)

tables_free :
    (first : Transition) (first_text : Bytes) (second : Transition) (second_text : Bytes) → Words first first_text → Words second second_text
    → (found : List TransitionTable) (Behind : List PlacedLexeme → Type 0) → Derives (tables first first_text second second_text) found
    → IsFree (tables first first_text second second_text) found (tables_tokens found) Behind
tables_free first first_text second second_text words other_words found Behind (text, other, (_, own, _, derived, d), inl none, e) =
    let named : IsNamed text = subst IsNamed (sym d) (name_named DerivesSome own derived) in
    let whole : found ≡ transitions_of first second text None = e ∙ ap (transitions_of first second text) none in
    subst (λ (found : List TransitionTable). IsFree (tables first first_text second second_text) found (tables_tokens found) Behind) (sym whole)
    (subst (λ (token : Written). IsFree (tables first first_text second second_text) (transitions_of first second text None)
    (token ∷ say (codes "TABLE") ∷ say (codes "AS") ∷ Name text ∷ []) Behind) (sym words.is)
    (alone_free (transitions_of first second) (table_as first_text ▸ name) (λ text. text) (Keyword second_text ∷ []) (table_as second_text) text
    (one_table_tokens words.printed text) Behind (first_table_free first first_text text Behind words named)))
tables_free first first_text second second_text words other_words found Behind
    (text, other, (_, own, _, derived, d), inr (_, other_text, _, (token, fit, sound, c), b), e) =
    let named : IsNamed text = subst IsNamed (sym d) (name_named DerivesSome own derived) in
    let differs = derived_name (λ (found : Bytes). not (same_text found text)) token fit sound in
    let whole : found ≡ transitions_of first second text (Some (text_of token)) = e ∙ ap (transitions_of first second text) (b ∙ ap Some c) in
    subst (λ (found : List TransitionTable). IsFree (tables first first_text second second_text) found (tables_tokens found) Behind) (sym whole)
    (subst (λ (word : Written). IsFree (tables first first_text second second_text) (transitions_of first second text (Some (text_of token)))
    (word ∷ say (codes "TABLE") ∷ say (codes "AS") ∷ Name text ∷ canon.transition second ∷ say (codes "TABLE") ∷ say (codes "AS") ∷ Name (text_of token) ∷ []) Behind) (sym words.is)
    (subst (λ (word : Written). IsFree (tables first first_text second second_text) (transitions_of first second text (Some (text_of token)))
    (one_table_tokens words.printed text ++ word ∷ say (codes "TABLE") ∷ say (codes "AS") ∷ Name (text_of token) ∷ []) Behind) (sym other_words.is)
    (differing_free (transitions_of first second) (table_as first_text ▸ name) (λ text. text) (Keyword second_text ∷ []) (table_as second_text) text (text_of token)
    (one_table_tokens words.printed text) (one_table_tokens other_words.printed (text_of token)) Behind (first_table_free first first_text text Anything words named)
    (both_any (λ introduced text. Some text) (table_as second_text) (Token (NameBut text) text_of) tt (text_of token)
    (Said other_words.printed ∷ say (codes "TABLE") ∷ say (codes "AS") ∷ []) (Name (text_of token) ∷ []) Behind
    (table_as_free other_words.printed second_text Anything other_words.folded other_words.same)
    (token_free (NameBut text) text_of (Name (text_of token)) (text_of token) Behind
    (λ line. name_fits (λ (found : Bytes). not (same_text found text)) (text_of token) differs.0 differs.1) (name_sound (text_of token) differs.0)
    (λ line. sym (name_text_is (text_of token))))))))

old_words : Words Old (codes "old")
old_words = record { printed = codes "OLD"; is = refl; folded = refl; same = refl }

new_words : Words New (codes "new")
new_words = record { printed = codes "NEW"; is = refl; folded = refl; same = refl }

transition_tables_free : (found : List TransitionTable) (Behind : List PlacedLexeme → Type 0) → Derives transition_tables found
    → IsFree transition_tables found (tables_tokens found) Behind
unfolding transition_tables
transition_tables_free found Behind (inl derived) =
    left_free (Keyword (codes "old") ∷ []) (tables Old (codes "old") New (codes "new"))
    (Either (Keyword (codes "new") ∷ []) (tables New (codes "new") Old (codes "old")) (Done [])) found (tables_tokens found) Behind
    (tables_free Old (codes "old") New (codes "new") old_words new_words found Behind derived)
transition_tables_free found Behind (inr (inl derived)) =
    right_free (Keyword (codes "old") ∷ []) (tables Old (codes "old") New (codes "new"))
    (Either (Keyword (codes "new") ∷ []) (tables New (codes "new") Old (codes "old")) (Done [])) found (tables_tokens found) Behind
    (left_free (Keyword (codes "new") ∷ []) (tables New (codes "new") Old (codes "old")) (Done []) found (tables_tokens found) Behind
    (tables_free New (codes "new") Old (codes "old") new_words old_words found Behind derived))
transition_tables_free found Behind (inr (inr e)) =
    subst (λ (found : List TransitionTable). IsFree transition_tables found (tables_tokens found) Behind) (sym e)
    (right_free (Keyword (codes "old") ∷ []) (tables Old (codes "old") New (codes "new"))
    (Either (Keyword (codes "new") ∷ []) (tables New (codes "new") Old (codes "old")) (Done [])) [] [] Behind
    (right_free (Keyword (codes "new") ∷ []) (tables New (codes "new") Old (codes "old")) (Done []) [] [] Behind (done_free [] Behind)))

pub referencing_free : (found : Option (List TransitionTable)) (Behind : List PlacedLexeme → Type 0) → Derives referencing found
    → IsFree referencing found (perhaps canon.referencing found) Behind
unfolding referencing
referencing_free found Behind (inl (_, _, (_, own, _, derived, d), _, e)) =
    subst (λ (found : Option (List TransitionTable)). IsFree referencing found (perhaps canon.referencing found) Behind) (sym (e ∙ ap Some d))
    (some_free (Keyword (codes "referencing") ∷ []) (word (codes "referencing") ▸ transition_tables) own (canon.referencing own) Behind
    (behind_word (codes "REFERENCING") (codes "referencing") transition_tables own (tables_tokens own) Behind refl refl (transition_tables_free own Behind derived)))
referencing_free found Behind (inr e) =
    subst (λ (found : Option (List TransitionTable)). IsFree referencing found (perhaps canon.referencing found) Behind) (sym e)
    (none_free (Keyword (codes "referencing") ∷ []) (word (codes "referencing") ▸ transition_tables) Behind)
