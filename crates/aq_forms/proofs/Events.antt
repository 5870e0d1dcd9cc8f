-- What a trigger watches and where it fires: the parts of CREATE TRIGGER with no expression in them are printed freely.
use Rattle.std.proofs.Common.{◌≡◌, List, [], ◌∷◌, ◌++◌, flat_map, Option, Some, inl, inr, refl, sym, ap, ◌∙◌, subst, codes}
use Rattle.std.proofs.lemmas.List.{append-nil}
use Rattle.aq_base.specs.Names.{Text as Bytes}
use Rattle.aq_base.specs.declared.trigger.TriggerEvent.{TriggerEvent}
use Rattle.aq_base.specs.declared.trigger.TriggerEvent.TheVariants.{Insert, Delete, Update}
use Rattle.aq_lex.specs.Lexemes.{PlacedLexeme}
use Rattle.aq_grammar.specs.Terminals.{Keyword}
use Rattle.aq_grammar.specs.Rules.{Rule, Done, Both, Either}
use Rattle.aq_grammar.specs.Forms.{word, ◌▸◌, mapped, optional, names, public_name}
use Rattle.aq_grammar.specs.Triggers.{insert_event, delete_event, update_event, one_event, with_events, last_event, more_events, events, not_after, Watched, watched}
use Rattle.aq_texts.specs.Written.{Written, say, Name, separated, names as names_tokens}
use Rattle.aq_texts.specs.Canon as canon
use Rattle.aq_texts.specs.Canon.{perhaps}
use Rattle.aq_forms.proofs.Derived.{DerivesSome, Derives}
use Rattle.aq_forms.proofs.Combining.{IsFree, Anything, done_free, says_free, both_any, behind_word, mapped_free, left_free, right_free, some_free, none_free, unless_free}
use Rattle.aq_forms.proofs.Printing.{prints_names}
use Rattle.aq_forms.proofs.Names.{IsNamed, public_named, public_free}

-- ---- events

-- each event of the rule is printed freely
abbrev PrintsEvents : Rule TriggerEvent → Type 1
PrintsEvents rule = (event : TriggerEvent) (Behind : List PlacedLexeme → Type 0) → Derives rule event → IsFree rule event (canon.trigger_event event) Behind

insert_event_free : PrintsEvents insert_event
unfolding insert_event
insert_event_free event Behind (_, _, _, e) =
    subst (λ (event : TriggerEvent). IsFree insert_event event (canon.trigger_event event) Behind) (sym e) (says_free (codes "INSERT") (codes "insert") Insert Behind refl refl)

delete_event_free : PrintsEvents delete_event
unfolding delete_event
delete_event_free event Behind (_, _, _, e) =
    subst (λ (event : TriggerEvent). IsFree delete_event event (canon.trigger_event event) Behind) (sym e) (says_free (codes "DELETE") (codes "delete") Delete Behind refl refl)

abbrev of_names : Rule (Option (List Bytes))
of_names = optional (Keyword (codes "of") ∷ []) (word (codes "of") ▸ names)

abbrev of_tokens : List Bytes → List Written
of_tokens found = say (codes "OF") ∷ names_tokens found

of_names_free : (found : Option (List Bytes)) (Behind : List PlacedLexeme → Type 0) → Derives of_names found → IsFree of_names found (perhaps of_tokens found) Behind
of_names_free found Behind (inl (_, _, (_, own, _, derived, d), _, e)) =
    subst (λ (found : Option (List Bytes)). IsFree of_names found (perhaps of_tokens found) Behind) (sym (e ∙ ap Some d))
    (some_free (Keyword (codes "of") ∷ []) (word (codes "of") ▸ names) own (of_tokens own) Behind
    (behind_word (codes "OF") (codes "of") names own (names_tokens own) Behind refl refl (prints_names Behind own derived)))
of_names_free found Behind (inr e) =
    subst (λ (found : Option (List Bytes)). IsFree of_names found (perhaps of_tokens found) Behind) (sym e)
    (none_free (Keyword (codes "of") ∷ []) (word (codes "of") ▸ names) Behind)

update_event_free : PrintsEvents update_event
unfolding update_event
update_event_free event Behind (_, _, (_, found, _, derived, d), _, e) =
    subst (λ (event : TriggerEvent). IsFree update_event event (canon.trigger_event event) Behind) (sym (e ∙ ap Update d))
    (mapped_free Update (word (codes "update") ▸ of_names) found (say (codes "UPDATE") ∷ perhaps of_tokens found) Behind
    (behind_word (codes "UPDATE") (codes "update") of_names found (perhaps of_tokens found) Behind refl refl (of_names_free found Behind derived)))

-- one more event
abbrev or_tokens : TriggerEvent → List Written
or_tokens event = say (codes "OR") ∷ canon.trigger_event event

separated_is : (event : TriggerEvent) (others : List TriggerEvent)
    → separated (say (codes "OR")) canon.trigger_event (event ∷ others) ≡ canon.trigger_event event ++ flat_map or_tokens others
separated_is event [] = sym (append-nil (canon.trigger_event event))
separated_is event (next ∷ others) = ap (λ (tokens : List Written). canon.trigger_event event ++ say (codes "OR") ∷ tokens) (separated_is next others)

abbrev PrintsMore : Rule (List TriggerEvent) → Type 1
PrintsMore rule = (others : List TriggerEvent) (Behind : List PlacedLexeme → Type 0) → Derives rule others → IsFree rule others (flat_map or_tokens others) Behind

last_event_free : (rule : Rule TriggerEvent) → PrintsEvents rule → PrintsMore (last_event rule)
last_event_free rule free others Behind (inl (_, _, _, (event, _, derived, _, d), e)) =
    subst (λ (others : List TriggerEvent). IsFree (last_event rule) others (flat_map or_tokens others) Behind) (sym (e ∙ d))
    (subst (λ (tokens : List Written). IsFree (last_event rule) (event ∷ []) tokens Behind) (sym (append-nil (or_tokens event)))
    (left_free (Keyword (codes "or") ∷ []) (word (codes "or") ▸ mapped one_event rule) (Done []) (event ∷ []) (or_tokens event) Behind
    (behind_word (codes "OR") (codes "or") (mapped one_event rule) (event ∷ []) (canon.trigger_event event) Behind refl refl
    (mapped_free one_event rule event (canon.trigger_event event) Behind (free event Behind derived)))))
last_event_free rule free others Behind (inr e) =
    subst (λ (others : List TriggerEvent). IsFree (last_event rule) others (flat_map or_tokens others) Behind) (sym e)
    (right_free (Keyword (codes "or") ∷ []) (word (codes "or") ▸ mapped one_event rule) (Done []) [] [] Behind (done_free [] Behind))

-- an event and others
with_events_free :
    (a : Rule TriggerEvent) (b : Rule (List TriggerEvent)) → PrintsEvents a → PrintsMore b → (event : TriggerEvent) (others : List TriggerEvent) (Behind : List PlacedLexeme → Type 0)
    → Derives a event → Derives b others → IsFree (Both with_events a b) (event ∷ others) (canon.trigger_event event ++ flat_map or_tokens others) Behind
with_events_free a b first second event others Behind derived more =
    both_any with_events a b event others (canon.trigger_event event) (flat_map or_tokens others) Behind (first event Anything derived) (second others Behind more)

abbrev two_events : Bytes → Rule TriggerEvent → Rule TriggerEvent → Rule (List TriggerEvent)
two_events first a b = Either (Keyword first ∷ []) (Both with_events a (last_event b)) (Both with_events b (last_event a))

-- behind OR
or_free :
    (first : Bytes) (a b : Rule TriggerEvent) (event : TriggerEvent) (rest others : List TriggerEvent) (Behind : List PlacedLexeme → Type 0) → others ≡ event ∷ rest
    → IsFree (two_events first a b) (event ∷ rest) (canon.trigger_event event ++ flat_map or_tokens rest) Behind
    → IsFree (more_events first a b) others (flat_map or_tokens others) Behind
or_free first a b event rest others Behind e free =
    subst (λ (others : List TriggerEvent). IsFree (more_events first a b) others (flat_map or_tokens others) Behind) (sym e)
    (left_free (Keyword (codes "or") ∷ []) (word (codes "or") ▸ two_events first a b) (Done []) (event ∷ rest) (flat_map or_tokens (event ∷ rest)) Behind
    (behind_word (codes "OR") (codes "or") (two_events first a b) (event ∷ rest) (canon.trigger_event event ++ flat_map or_tokens rest) Behind refl refl free))

more_events_free : (first : Bytes) (a b : Rule TriggerEvent) → PrintsEvents a → PrintsEvents b → PrintsMore (more_events first a b)
more_events_free first a b one other others Behind (inl (_, _, _, (inl (event, rest, derived, last, d)), e)) =
    or_free first a b event rest others Behind (e ∙ d)
    (left_free (Keyword first ∷ []) (Both with_events a (last_event b)) (Both with_events b (last_event a)) (event ∷ rest)
    (canon.trigger_event event ++ flat_map or_tokens rest) Behind
    (with_events_free a (last_event b) one (last_event_free b other) event rest Behind derived last))
more_events_free first a b one other others Behind (inl (_, _, _, (inr (event, rest, derived, last, d)), e)) =
    or_free first a b event rest others Behind (e ∙ d)
    (right_free (Keyword first ∷ []) (Both with_events a (last_event b)) (Both with_events b (last_event a)) (event ∷ rest)
    (canon.trigger_event event ++ flat_map or_tokens rest) Behind
    (with_events_free b (last_event a) other (last_event_free a one) event rest Behind derived last))
more_events_free first a b one other others Behind (inr e) =
    subst (λ (others : List TriggerEvent). IsFree (more_events first a b) others (flat_map or_tokens others) Behind) (sym e)
    (right_free (Keyword (codes "or") ∷ []) (word (codes "or") ▸ two_events first a b) (Done []) [] [] Behind (done_free [] Behind))

abbrev event_tokens : List TriggerEvent → List Written
event_tokens found = separated (say (codes "OR")) canon.trigger_event found

-- an event, and others out of two
each_of : Rule TriggerEvent → Bytes → Rule TriggerEvent → Rule TriggerEvent → Rule (List TriggerEvent)
each_of a first b c = Both with_events a (more_events first b c)

each_of_free :
    (a : Rule TriggerEvent) (first : Bytes) (b c : Rule TriggerEvent) → PrintsEvents a → PrintsEvents b → PrintsEvents c
    → (found : List TriggerEvent) (Behind : List PlacedLexeme → Type 0) → Derives (each_of a first b c) found → IsFree (each_of a first b c) found (event_tokens found) Behind
unfolding each_of
each_of_free a first b c one other last found Behind (event, rest, derived, more, e) =
    subst (λ (found : List TriggerEvent). IsFree (Both with_events a (more_events first b c)) found (event_tokens found) Behind) (sym e)
    (subst (λ (tokens : List Written). IsFree (Both with_events a (more_events first b c)) (event ∷ rest) tokens Behind) (sym (separated_is event rest))
    (with_events_free a (more_events first b c) one (more_events_free first b c other last) event rest Behind derived more))

events_free : (found : List TriggerEvent) (Behind : List PlacedLexeme → Type 0) → Derives events found → IsFree events found (event_tokens found) Behind
unfolding events each_of
events_free found Behind (inl derived) =
    left_free (Keyword (codes "insert") ∷ []) (each_of insert_event (codes "delete") delete_event update_event)
    (Either (Keyword (codes "delete") ∷ []) (each_of delete_event (codes "insert") insert_event update_event)
    (each_of update_event (codes "insert") insert_event delete_event)) found (event_tokens found) Behind
    (each_of_free insert_event (codes "delete") delete_event update_event insert_event_free delete_event_free update_event_free found Behind derived)
events_free found Behind (inr (inl derived)) =
    right_free (Keyword (codes "insert") ∷ []) (each_of insert_event (codes "delete") delete_event update_event)
    (Either (Keyword (codes "delete") ∷ []) (each_of delete_event (codes "insert") insert_event update_event)
    (each_of update_event (codes "insert") insert_event delete_event)) found (event_tokens found) Behind
    (left_free (Keyword (codes "delete") ∷ []) (each_of delete_event (codes "insert") insert_event update_event)
    (each_of update_event (codes "insert") insert_event delete_event) found (event_tokens found) Behind
    (each_of_free delete_event (codes "insert") insert_event update_event delete_event_free insert_event_free update_event_free found Behind derived))
events_free found Behind (inr (inr derived)) =
    right_free (Keyword (codes "insert") ∷ []) (each_of insert_event (codes "delete") delete_event update_event)
    (Either (Keyword (codes "delete") ∷ []) (each_of delete_event (codes "insert") insert_event update_event)
    (each_of update_event (codes "insert") insert_event delete_event)) found (event_tokens found) Behind
    (right_free (Keyword (codes "delete") ∷ []) (each_of delete_event (codes "insert") insert_event update_event)
    (each_of update_event (codes "insert") insert_event delete_event) found (event_tokens found) Behind
    (each_of_free update_event (codes "insert") insert_event delete_event update_event_free insert_event_free delete_event_free found Behind derived))

-- ---- the events and the table

abbrev pub watched_tokens : Watched → List Written
watched_tokens found = say (codes "AFTER") ∷ (event_tokens found.events ++ say (codes "ON") ∷ Name found.table ∷ [])

abbrev watched_of : List TriggerEvent → Bytes → Watched
watched_of events table = record { events = events; table = table }

pub watched_free : (found : Watched) (Behind : List PlacedLexeme → Type 0) → Derives watched found → IsFree watched found (watched_tokens found) Behind
unfolding watched
watched_free found Behind (_, _, _, (those, table, derived, (_, own, _, table_derived, c), b), a) =
    let e : found ≡ watched_of those table = a ∙ b in
    let named : IsNamed table = subst IsNamed (sym c) (public_named DerivesSome own table_derived) in
    let watches : Rule Watched = Both watched_of events (word (codes "on") ▸ public_name) in
    subst (λ (found : Watched). IsFree watched found (watched_tokens found) Behind) (sym e)
    (unless_free not_after (word (codes "after") ▸ watches) (watched_of those table) (watched_tokens (watched_of those table)) Behind
    (behind_word (codes "AFTER") (codes "after") watches (watched_of those table) (event_tokens those ++ say (codes "ON") ∷ Name table ∷ []) Behind refl refl
    (both_any watched_of events (word (codes "on") ▸ public_name) those table (event_tokens those) (say (codes "ON") ∷ Name table ∷ []) Behind
    (events_free those Anything derived)
    (behind_word (codes "ON") (codes "on") public_name table (Name table ∷ []) Behind refl refl (public_free table Behind named))))
    (λ lines at rest behind. refl))
