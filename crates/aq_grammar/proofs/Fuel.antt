-- Reading never lengthens the tokens, so fewer calls lie within one another than there are tokens, and one.
use Rattle.std.proofs.Common.{◌≡◌, ℕ, zero, suc, ◌<◌, ◌≤◌, ◌-◌, Bool, true, false, not, ◌&&◌, ◌⊎◌, inl, inr, List, [], ◌∷◌, length, take, drop, Option, Some, None, if◌then◌else◌, nat_le, refl, sym, ◌∙◌, ap, subst, arith, le_refl}
use Rattle.std.proofs.lemmas.Bool.{and_parts, not-true, cond_both}
use Rattle.std.proofs.lemmas.List.{length-take, length-drop}
use Rattle.aq_base.specs.Names.{Text as Bytes}
use Rattle.aq_base.specs.declared.fault.SqlFault.{SqlFault}
use Rattle.aq_lex.specs.Lexemes.{PlacedLexeme}
use Rattle.aq_grammar.specs.Terminals.{Terminal, Name, NameBut, fits, begins, text_of}
use Rattle.aq_grammar.specs.Rules.{Nonterminal, ValueOf, Refusal, Rule, Done, Token, Both, Either, Many, Differing, Call, Unless, Limited}
use Rattle.aq_grammar.specs.Rules.{refused}
use Rattle.aq_grammar.specs.Reading.{Outcome, Read, Stop, Syntax, Refused, Reader, ◌>>=◌, read_token, read_both, read_either, stop_or, read_each, read_other, within, read_limited, read_by}
use Rattle.aq_grammar.specs.Sets.{Marks, marks_by, is_fit_by, both_fit, either_fits, differing_fits, many_fit, have_words, of_nothing, of_token, of_both, of_either, of_other, same_kinds, are_apart, no_kinds}
use Rattle.aq_grammar.specs.Calls.{Rules, AreFit, called_within, called}

-- What is left is no longer than what there was, and shorter behind a tree that can't be empty.
abbrev pub Shortens : {A : Type 0} → Bool → ℕ → Outcome A → Type 0
Shortens is_empty size (Read x rest) = (length rest ≤ size) × (is_empty ≡ false → length rest < size)
Shortens is_empty size (Stop reason rest) = length rest ≤ size

-- what is read of a form that can't be empty is read of one that can be
pub shortens_at_least : {A : Type 0} (is_empty : Bool) (size : ℕ) (outcome : Outcome A) → Shortens false size outcome → Shortens is_empty size outcome
shortens_at_least is_empty size (Read x rest) (less, shorter) = (less, λ e. shorter refl)
shortens_at_least is_empty size (Stop reason rest) less = less

pub shortens_if_any : {A : Type 0} (is_empty : Bool) (size : ℕ) (outcome : Outcome A) → Shortens is_empty size outcome → Shortens true size outcome
shortens_if_any is_empty size (Read x rest) (less, shorter) = (less, λ e. cc)
shortens_if_any is_empty size (Stop reason rest) less = less

shortens_behind :
    {B : Type 0} (a b : Bool) (size middle : ℕ) (outcome : Outcome B) → middle ≤ size → (a ≡ false → middle < size) → Shortens b middle outcome
    → Shortens (a && b) size outcome
shortens_behind true b size middle (Read x rest) less shorter (no_more, fewer) = (omega arith, λ e. let h : length rest < middle = fewer e in omega arith)
shortens_behind false b size middle (Read x rest) less shorter (no_more, fewer) = (omega arith, λ e. let h : middle < size = shorter refl in omega arith)
shortens_behind a b size middle (Stop reason rest) less shorter no_more = omega arith

pub bind_shortens :
    {A B : Type 0} (a b : Bool) (size : ℕ) (outcome : Outcome A) (next : A → List PlacedLexeme → Outcome B)
    → Shortens a size outcome → ((x : A) (rest : List PlacedLexeme) → Shortens b (length rest) (next x rest)) → Shortens (a && b) size (outcome >>= next)
bind_shortens a b size (Read x rest) next (less, shorter) follows = shortens_behind a b size (length rest) (next x rest) less shorter (follows x rest)
bind_shortens a b size (Stop reason rest) next less follows = less

pub called_shortens : {A B : Type 0} (a : Bool) (size : ℕ) (f : A → B) (outcome : Outcome A) → Shortens a size outcome → Shortens a size (outcome >>= λ x rest. Read (f x) rest)
called_shortens a size f (Read x rest) shortens = shortens
called_shortens a size f (Stop reason rest) shortens = shortens

pub token_shortens : {A : Type 0} (kind : Terminal) (f : PlacedLexeme → A) (tokens : List PlacedLexeme) → Shortens false (length tokens) (read_token kind f tokens)
token_shortens kind f [] = le_refl 0
token_shortens kind f (token ∷ rest) =
    cond_both (fits kind token) (Read (f token) rest) (Stop Syntax (token ∷ rest)) (Shortens false (length (token ∷ rest)))
    (λ fit. (omega arith, λ e. omega arith)) (λ unfit. omega arith)

pub both_shortens :
    {A B C : Type 0} (f : A → B → C) (a b : Bool) (first : Reader A) (second : A → Reader B) (tokens : List PlacedLexeme)
    → Shortens a (length tokens) (first tokens) → ((x : A) (rest : List PlacedLexeme) → Shortens b (length rest) (second x rest))
    → Shortens (a && b) (length tokens) (read_both f first second tokens)
both_shortens f a b first second tokens one other =
    bind_shortens a b (length tokens) (first tokens) (λ x rest. second x rest >>= λ y last. Read (f x y) last) one
    (λ x rest. called_shortens b (length rest) (f x) (second x rest) (other x rest))

pub either_shortens :
    {A : Type 0} (kinds : List Terminal) (is_empty : Bool) (first second : Reader A) (tokens : List PlacedLexeme)
    → Shortens is_empty (length tokens) (first tokens) → Shortens is_empty (length tokens) (second tokens)
    → Shortens is_empty (length tokens) (read_either kinds first second tokens)
either_shortens kinds is_empty first second tokens one other =
    cond_both (begins kinds tokens) (first tokens) (second tokens) (Shortens is_empty (length tokens)) (λ e. one) (λ e. other)

pub stop_or_shortens :
    {A : Type 0} (is_empty : Bool) (fault : Option SqlFault) (tokens : List PlacedLexeme) (outcome : Outcome A)
    → Shortens is_empty (length tokens) outcome → Shortens is_empty (length tokens) (stop_or fault tokens outcome)
stop_or_shortens is_empty None tokens outcome shortens = shortens
stop_or_shortens is_empty (Some fault) tokens outcome shortens = le_refl (length tokens)

pub nothing_shortens : {A : Type 0} (x : A) (tokens : List PlacedLexeme) → Shortens true (length tokens) (Read x tokens)
nothing_shortens x tokens = (le_refl (length tokens), λ e. cc)

pub each_shortens :
    {A : Type 0} (most : ℕ) (kinds : List Terminal) (refusals : List Refusal) (reader : Reader A)
    → ((tokens : List PlacedLexeme) → Shortens true (length tokens) (reader tokens))
    → (tokens : List PlacedLexeme) → Shortens true (length tokens) (read_each most kinds refusals reader tokens)
each_shortens {A} zero kinds refusals reader one tokens =
    stop_or_shortens true (refused refusals tokens) tokens (Read [] tokens) (nothing_shortens {A = List A} [] tokens)
each_shortens {A} (suc most) kinds refusals reader one tokens =
    stop_or_shortens true (refused refusals tokens) tokens _
    (either_shortens kinds true (read_both (λ x others. x ∷ others) reader (λ x. read_each most kinds refusals reader)) (λ rest. Read [] rest) tokens
    (both_shortens (λ x others. x ∷ others) true true reader (λ x. read_each most kinds refusals reader) tokens (one tokens)
    (λ x. each_shortens most kinds refusals reader one))
    (nothing_shortens {A = List A} [] tokens))

pub other_shortens :
    {B : Type 0} (kinds : List Terminal) (reader : Reader B) (name : Bytes) → ((tokens : List PlacedLexeme) → Shortens true (length tokens) (reader tokens))
    → (tokens : List PlacedLexeme) → Shortens true (length tokens) (read_other kinds reader name tokens)
other_shortens kinds reader name one tokens =
    either_shortens kinds true (read_both (λ b text. Some text) reader (λ b. read_token (NameBut name) text_of)) (λ rest. Read None rest) tokens
    (both_shortens (λ b text. Some text) true true reader (λ b. read_token (NameBut name) text_of) tokens (one tokens)
    (λ b rest. shortens_at_least true (length rest) _ (token_shortens (NameBut name) text_of rest)))
    (nothing_shortens {A = Option Bytes} None tokens)

pub within_shortens :
    {A : Type 0} (is_empty : Bool) (most : ℕ) (fault : SqlFault) (tokens front : List PlacedLexeme) (outcome : Outcome A) → length front ≤ length tokens
    → Shortens is_empty (length front) outcome → Shortens is_empty (length tokens) (within most fault tokens front outcome)
within_shortens is_empty most fault tokens front (Read x rest) cut (less, shorter) =
    cond_both (nat_le (length front - length rest) most) (Read x (drop (length front - length rest) tokens)) (Stop (Refused fault) (drop most tokens))
    (Shortens is_empty (length tokens))
    (λ e. (
      omega (arith, length-drop (length front - length rest) tokens),
      λ not_empty. let h : length rest < length front = shorter not_empty in omega (arith, length-drop (length front - length rest) tokens),
    ))
    (λ e. omega (arith, length-drop most tokens))
within_shortens is_empty most fault tokens front (Stop reason rest) cut less =
    cond_both (nat_le (length front - length rest) most) (Stop reason (drop (length front - length rest) tokens)) (Stop (Refused fault) (drop most tokens))
    (Shortens is_empty (length tokens))
    (λ e. omega (arith, length-drop (length front - length rest) tokens)) (λ e. omega (arith, length-drop most tokens))

pub limited_shortens :
    {A : Type 0} (is_empty : Bool) (most : ℕ) (fault : SqlFault) (reader : Reader A)
    → ((tokens : List PlacedLexeme) → Shortens is_empty (length tokens) (reader tokens))
    → (tokens : List PlacedLexeme) → Shortens is_empty (length tokens) (read_limited most fault reader tokens)
limited_shortens is_empty most fault reader one tokens =
    within_shortens is_empty most fault tokens (take (suc most) tokens) (reader (take (suc most) tokens)) (omega (arith, length-take (suc most) tokens))
    (one (take (suc most) tokens))

all_three : (a b c : Bool) → (a && b && c) ≡ true → (a ≡ true) × (b ≡ true) × (c ≡ true)
all_three true true c h = (refl, refl, h)
all_three true false c h = cc
all_three false b c h = cc

-- the first of two that fit is never empty
pub first_is_not_empty : (kinds : List Terminal) (a b : Marks) → either_fits kinds a b ≡ true → a.is_empty ≡ false
first_is_not_empty kinds a b h =
    not-true a.is_empty
    (of_five (not a.is_empty) (same_kinds kinds a.begins) (are_apart a.begins b.begins) (no_kinds a.opens) (no_kinds b.opens) h)
  where
    of_five : (a b c d e : Bool) → (a && b && c && d && e) ≡ true → a ≡ true
    of_five true b c d e h = refl
    of_five false b c d e h = h

module _ (readers : (n : Nonterminal) → Reader (ValueOf n)) (marks : Nonterminal → Marks)
    (calls : (n : Nonterminal) (tokens : List PlacedLexeme) → Shortens (marks n).is_empty (length tokens) (readers n tokens)) where
  -- what a rule reads is no longer than what there was, where it is so of the nonterminals
  pub shortens_by :
      {A : Type 0} → (r : Rule A) → is_fit_by marks r ≡ true → (tokens : List PlacedLexeme) → Shortens (marks_by marks r).is_empty (length tokens) (read_by readers r tokens)
  shortens_by (Done x) fit tokens = (le_refl (length tokens), λ e. cc)
  shortens_by (Token kind f) fit tokens = token_shortens kind f tokens
  shortens_by (Both f a b) fit tokens =
      let (one, other, apart) = all_three (is_fit_by marks a) (is_fit_by marks b) (both_fit (marks_by marks a) (marks_by marks b)) fit in
      both_shortens f (marks_by marks a).is_empty (marks_by marks b).is_empty (read_by readers a) (λ x. read_by readers b) tokens
      (shortens_by a one tokens) (λ x. shortens_by b other)
  shortens_by (Either kinds a b) fit tokens =
      let (one, other, fits) = all_three (is_fit_by marks a) (is_fit_by marks b) (either_fits kinds (marks_by marks a) (marks_by marks b)) fit in
      either_shortens kinds (marks_by marks b).is_empty (read_by readers a) (read_by readers b) tokens
      (shortens_at_least (marks_by marks b).is_empty (length tokens) (read_by readers a tokens)
      (subst (λ e. Shortens e (length tokens) (read_by readers a tokens)) (first_is_not_empty kinds (marks_by marks a) (marks_by marks b) fits)
      (shortens_by a one tokens)))
      (shortens_by b other tokens)
  shortens_by (Many kinds refusals f a) fit tokens =
      let (one, fits) = and_parts (is_fit_by marks a) (many_fit kinds refusals (marks_by marks a)) fit in
      called_shortens true (length tokens) f (read_each (length tokens) kinds refusals (read_by readers a) tokens)
      (each_shortens (length tokens) kinds refusals (read_by readers a)
      (λ rest. shortens_if_any (marks_by marks a).is_empty (length rest) (read_by readers a rest) (shortens_by a one rest)) tokens)
  shortens_by (Differing f a name kinds b) fit tokens =
      let (one, other, fits) = all_three (is_fit_by marks a) (is_fit_by marks b) (differing_fits kinds (marks_by marks a) (marks_by marks b)) fit in
      both_shortens f (marks_by marks a).is_empty true (read_by readers a) (λ x. read_other kinds (read_by readers b) (name x)) tokens
      (shortens_by a one tokens)
      (λ x. other_shortens kinds (read_by readers b) (name x)
      (λ rest. shortens_if_any (marks_by marks b).is_empty (length rest) (read_by readers b rest) (shortens_by b other rest)))
  shortens_by (Call nonterminal f) fit tokens = called_shortens (marks nonterminal).is_empty (length tokens) f (readers nonterminal tokens) (calls nonterminal tokens)
  shortens_by (Unless refusals a) fit tokens =
      let (one, words) = and_parts (is_fit_by marks a) (have_words refusals) fit in
      stop_or_shortens (marks_by marks a).is_empty (refused refusals tokens) tokens (read_by readers a tokens) (shortens_by a one tokens)
  shortens_by (Limited most limit a) fit tokens =
      let (one, plain, some) = all_three (is_fit_by marks a) (marks_by marks a).is_plain (nat_le 1 most) fit in
      limited_shortens (marks_by marks a).is_empty most limit (read_by readers a) (shortens_by a one) tokens

-- There are fewer tokens than so many; or as many, and a token comes before the first call.
abbrev pub HasRoom : ℕ → Bool → ℕ → Type 0
HasRoom most guarded size = (size < most) ⊎ ((size ≤ most) × (guarded ≡ true))

pub room_of_fewer : (most size rest : ℕ) (guarded : Bool) → rest ≤ size → HasRoom most guarded size → HasRoom most guarded rest
room_of_fewer most size rest guarded less (inl fewer) = inl (omega arith)
room_of_fewer most size rest guarded less (inr (as_many, guards)) = inr (omega arith, guards)

room_of_part : (most size : ℕ) (whole part : Bool) → (whole ≡ true → part ≡ true) → HasRoom most whole size → HasRoom most part size
room_of_part most size whole part implied (inl fewer) = inl fewer
room_of_part most size whole part implied (inr (as_many, guards)) = inr (as_many, implied guards)

pub room_first : (most size : ℕ) (a b : Marks) → HasRoom most (of_both a b).is_guarded size → HasRoom most a.is_guarded size
room_first most size a b =
    room_of_part most size (of_both a b).is_guarded a.is_guarded (λ e. (and_parts a.is_guarded (if a.is_empty then b.is_guarded else true) e).0)

pub room_one : (most size : ℕ) (a b : Marks) → HasRoom most (of_either a b).is_guarded size → HasRoom most a.is_guarded size
room_one most size a b = room_of_part most size (of_either a b).is_guarded a.is_guarded (λ e. (and_parts a.is_guarded b.is_guarded e).0)

pub room_other : (most size : ℕ) (a b : Marks) → HasRoom most (of_either a b).is_guarded size → HasRoom most b.is_guarded size
room_other most size a b = room_of_part most size (of_either a b).is_guarded b.is_guarded (λ e. (and_parts a.is_guarded b.is_guarded e).1)

-- perhaps a name calls where what introduces it calls
pub room_within_other : (most size : ℕ) (b : Marks) → HasRoom most (of_other b).is_guarded size → HasRoom most b.is_guarded size
room_within_other most size b room = room_first most size b (of_token Name) (room_one most size (of_both b (of_token Name)) of_nothing room)

guarded_behind :
    (most size rest : ℕ) (a b is_empty : Bool) → rest ≤ size → (is_empty ≡ false → rest < size)
    → HasRoom most (a && (if is_empty then b else true)) size → HasRoom most b rest
guarded_behind most size rest a b true less shorter room =
    room_of_part most rest (a && b) b (λ e. (and_parts a b e).1) (room_of_fewer most size rest (a && b) less room)
guarded_behind most size rest a b false less shorter (inl fewer) = inl (omega arith)
guarded_behind most size rest a b false less shorter (inr (as_many, guards)) = let h : rest < size = shorter refl in inl (omega arith)

-- behind a tree that may be empty calls are guarded as they were before it
pub room_behind :
    (most size rest : ℕ) (a b : Marks) → rest ≤ size → (a.is_empty ≡ false → rest < size) → HasRoom most (of_both a b).is_guarded size → HasRoom most b.is_guarded rest
room_behind most size rest a b = guarded_behind most size rest a.is_guarded b.is_guarded a.is_empty

pub bind_agrees :
    {A B : Type 0} (a : Bool) (size : ℕ) (outcome other : Outcome A) (next follow : A → List PlacedLexeme → Outcome B) → outcome ≡ other → Shortens a size outcome
    → ((x : A) (rest : List PlacedLexeme) → length rest ≤ size → (a ≡ false → length rest < size) → next x rest ≡ follow x rest)
    → (outcome >>= next) ≡ (other >>= follow)
bind_agrees a size (Read x rest) other next follow same (less, shorter) agrees = agrees x rest less shorter ∙ ap (λ o. o >>= follow) same
bind_agrees a size (Stop reason rest) other next follow same less agrees = ap (λ o. o >>= follow) same

pub both_agrees :
    {A B C : Type 0} (f : A → B → C) (a : Bool) (first one : Reader A) (second other : A → Reader B) (tokens : List PlacedLexeme)
    → first tokens ≡ one tokens → Shortens a (length tokens) (first tokens)
    → ((x : A) (rest : List PlacedLexeme) → length rest ≤ length tokens → (a ≡ false → length rest < length tokens) → second x rest ≡ other x rest)
    → read_both f first second tokens ≡ read_both f one other tokens
both_agrees f a first one second other tokens same shortens agrees =
    bind_agrees a (length tokens) (first tokens) (one tokens) (λ x rest. second x rest >>= λ y last. Read (f x y) last) (λ x rest. other x rest >>= λ y last. Read (f x y) last)
    same shortens (λ x rest less shorter. ap (λ o. o >>= λ y last. Read (f x y) last) (agrees x rest less shorter))

pub either_agrees :
    {A : Type 0} (kinds : List Terminal) (first one second other : Reader A) (tokens : List PlacedLexeme) → first tokens ≡ one tokens → second tokens ≡ other tokens
    → read_either kinds first second tokens ≡ read_either kinds one other tokens
either_agrees kinds first one second other tokens same alike =
    ap (λ o. if begins kinds tokens then o else second tokens) same ∙ ap (λ o. if begins kinds tokens then one tokens else o) alike

pub each_agrees :
    {A : Type 0} (most size : ℕ) (kinds : List Terminal) (refusals : List Refusal) (reader other : Reader A)
    → ((tokens : List PlacedLexeme) → length tokens ≤ size → reader tokens ≡ other tokens)
    → ((tokens : List PlacedLexeme) → Shortens true (length tokens) (reader tokens))
    → (tokens : List PlacedLexeme) → length tokens ≤ size → read_each most kinds refusals reader tokens ≡ read_each most kinds refusals other tokens
each_agrees zero size kinds refusals reader other same shortens tokens less = refl
each_agrees (suc most) size kinds refusals reader other same shortens tokens less =
    ap (λ o. stop_or (refused refusals tokens) tokens o)
    (either_agrees kinds (read_both (λ x others. x ∷ others) reader (λ x. read_each most kinds refusals reader))
    (read_both (λ x others. x ∷ others) other (λ x. read_each most kinds refusals other)) (λ rest. Read [] rest) (λ rest. Read [] rest) tokens
    (both_agrees (λ x others. x ∷ others) true reader other (λ x. read_each most kinds refusals reader) (λ x. read_each most kinds refusals other) tokens
    (same tokens less) (shortens tokens)
    (λ x rest no_more shorter. each_agrees most size kinds refusals reader other same shortens rest (omega arith)))
    refl)

pub other_agrees :
    {B : Type 0} (kinds : List Terminal) (reader other : Reader B) (name : Bytes) (tokens : List PlacedLexeme) → reader tokens ≡ other tokens
    → read_other kinds reader name tokens ≡ read_other kinds other name tokens
other_agrees kinds reader other name tokens same =
    ap (λ o. if begins kinds tokens then (o >>= λ b rest. read_token (NameBut name) text_of rest >>= λ text last. Read (Some text) last) else Read None tokens) same

-- readers that read shorter tokens alike
module _ (readers others : (n : Nonterminal) → Reader (ValueOf n)) (marks : Nonterminal → Marks) (most : ℕ)
    (same : (n : Nonterminal) (tokens : List PlacedLexeme) → length tokens < most → readers n tokens ≡ others n tokens)
    (calls : (n : Nonterminal) (tokens : List PlacedLexeme) → Shortens (marks n).is_empty (length tokens) (readers n tokens)) where
  -- a rule is read alike by them
  pub agrees_by :
      {A : Type 0} → (r : Rule A) → is_fit_by marks r ≡ true → (tokens : List PlacedLexeme) → HasRoom most (marks_by marks r).is_guarded (length tokens)
      → read_by readers r tokens ≡ read_by others r tokens
  agrees_by (Done x) fit tokens room = refl
  agrees_by (Token kind f) fit tokens room = refl
  agrees_by (Both f a b) fit tokens room =
      let (one, other, apart) = all_three (is_fit_by marks a) (is_fit_by marks b) (both_fit (marks_by marks a) (marks_by marks b)) fit in
      both_agrees f (marks_by marks a).is_empty (read_by readers a) (read_by others a) (λ x. read_by readers b) (λ x. read_by others b) tokens
      (agrees_by a one tokens (room_first most (length tokens) (marks_by marks a) (marks_by marks b) room))
      (shortens_by readers marks calls a one tokens)
      (λ x rest less shorter. agrees_by b other rest
      (room_behind most (length tokens) (length rest) (marks_by marks a) (marks_by marks b) less shorter room))
  agrees_by (Either kinds a b) fit tokens room =
      let (one, other, fits) = all_three (is_fit_by marks a) (is_fit_by marks b) (either_fits kinds (marks_by marks a) (marks_by marks b)) fit in
      either_agrees kinds (read_by readers a) (read_by others a) (read_by readers b) (read_by others b) tokens
      (agrees_by a one tokens (room_one most (length tokens) (marks_by marks a) (marks_by marks b) room))
      (agrees_by b other tokens (room_other most (length tokens) (marks_by marks a) (marks_by marks b) room))
  agrees_by (Many kinds refusals f a) fit tokens room =
      let (one, fits) = and_parts (is_fit_by marks a) (many_fit kinds refusals (marks_by marks a)) fit in
      ap (λ o. o >>= λ xs rest. Read (f xs) rest)
      (each_agrees (length tokens) (length tokens) kinds refusals (read_by readers a) (read_by others a)
      (λ rest less. agrees_by a one rest (room_of_fewer most (length tokens) (length rest) (marks_by marks a).is_guarded less room))
      (λ rest. shortens_if_any (marks_by marks a).is_empty (length rest) (read_by readers a rest) (shortens_by readers marks calls a one rest))
      tokens (le_refl (length tokens)))
  agrees_by (Differing f a name kinds b) fit tokens room =
      let (one, other, fits) = all_three (is_fit_by marks a) (is_fit_by marks b) (differing_fits kinds (marks_by marks a) (marks_by marks b)) fit in
      both_agrees f (marks_by marks a).is_empty (read_by readers a) (read_by others a)
      (λ x. read_other kinds (read_by readers b) (name x)) (λ x. read_other kinds (read_by others b) (name x)) tokens
      (agrees_by a one tokens (room_first most (length tokens) (marks_by marks a) (of_other (marks_by marks b)) room))
      (shortens_by readers marks calls a one tokens)
      (λ x rest less shorter. other_agrees kinds (read_by readers b) (read_by others b) (name x) rest
      (agrees_by b other rest
      (room_within_other most (length rest) (marks_by marks b)
      (room_behind most (length tokens) (length rest) (marks_by marks a) (of_other (marks_by marks b)) less shorter room))))
  agrees_by (Call nonterminal f) fit tokens (inl fewer) = ap (λ o. o >>= λ x rest. Read (f x) rest) (same nonterminal tokens fewer)
  agrees_by (Call nonterminal f) fit tokens (inr (as_many, guards)) = cc
  agrees_by (Unless refusals a) fit tokens room =
      let (one, words) = and_parts (is_fit_by marks a) (have_words refusals) fit in
      ap (λ o. stop_or (refused refusals tokens) tokens o) (agrees_by a one tokens room)
  agrees_by (Limited limit fault a) fit tokens room =
      let (one, plain, some) = all_three (is_fit_by marks a) (marks_by marks a).is_plain (nat_le 1 limit) fit in
      ap (λ o. within limit fault tokens (take (suc limit) tokens) o)
      (agrees_by a one (take (suc limit) tokens)
      (room_of_fewer most (length tokens) (length (take (suc limit) tokens)) (marks_by marks a).is_guarded
      (omega (arith, length-take (suc limit) tokens)) room))

pub within_shortens_by :
    (rules : Rules) (marks : Nonterminal → Marks) → AreFit rules marks
    → (most : ℕ) (n : Nonterminal) (tokens : List PlacedLexeme) → Shortens (marks n).is_empty (length tokens) (called_within rules most n tokens)
within_shortens_by rules marks fits zero n tokens = le_refl (length tokens)
within_shortens_by rules marks fits (suc most) n tokens =
    subst (λ e. Shortens e (length tokens) (called_within rules (suc most) n tokens)) (sym (fits.is_empty n))
    (shortens_by (called_within rules most) marks (within_shortens_by rules marks fits most) (rules n) (fits.fit n) tokens)

-- more calls within one another than there are tokens are of no use
pub within_agrees :
    (rules : Rules) (marks : Nonterminal → Marks) → AreFit rules marks
    → (most more : ℕ) (n : Nonterminal) (tokens : List PlacedLexeme) → length tokens < most → length tokens < more
    → called_within rules most n tokens ≡ called_within rules more n tokens
within_agrees rules marks fits zero more n tokens less fewer = absurd (omega arith)
within_agrees rules marks fits (suc most) zero n tokens less fewer = absurd (omega arith)
within_agrees rules marks fits (suc most) (suc more) n tokens less fewer =
    agrees_by (called_within rules most) (called_within rules more) marks (length tokens)
    (λ m rest shorter. within_agrees rules marks fits most more m rest (omega arith) (omega arith))
    (within_shortens_by rules marks fits most) (rules n) (fits.fit n) tokens (inr (le_refl (length tokens), fits.guarded n))

pub called_shortens_by :
    (rules : Rules) (marks : Nonterminal → Marks) → AreFit rules marks
    → (n : Nonterminal) (tokens : List PlacedLexeme) → Shortens (marks n).is_empty (length tokens) (called rules n tokens)
called_shortens_by rules marks fits n tokens = within_shortens_by rules marks fits (suc (length tokens)) n tokens

-- a nonterminal is read by its rule
pub called_reads :
    (rules : Rules) (marks : Nonterminal → Marks) → AreFit rules marks
    → (n : Nonterminal) (tokens : List PlacedLexeme) → called rules n tokens ≡ read_by (called rules) (rules n) tokens
called_reads rules marks fits n tokens =
    agrees_by (called_within rules (length tokens)) (called rules) marks (length tokens)
    (λ m rest shorter. within_agrees rules marks fits (length tokens) (suc (length rest)) m rest shorter (omega arith))
    (within_shortens_by rules marks fits (length tokens)) (rules n) (fits.fit n) tokens (inr (le_refl (length tokens), fits.guarded n))
