-- What a transaction has written: it holds each such row that is in the last database in a writer's mode, and so does each saved copy, whose
-- rows are written again by what stands after it.
use Rattle.std.proofs.Common.{◌≡◌, ◌≢◌, ℕ, ◌≤◌, Bool, true, false, arith, List, [], ◌∷◌, Option, Some, None, refl, sym, ap, ◌∙◌, subst, ⊎_elim, ◌⊎◌, inl, inr}
use Rattle.std.specs.Prelude.{nat_le, drop, ◌+◌, zero, suc, if◌then◌else◌}
use Rattle.std.proofs.lemmas.Bool.{cases_eq}
use Rattle.std.proofs.lemmas.Bool.Decides.{nat_tests}
use Rattle.std.proofs.lemmas.Option.{same_Some, none-some}
use Rattle.aq_base.specs.Values.{Row}
use Rattle.aq_base.specs.Maps.{at, with_at}
use Rattle.aq_base.proofs.Maps.{KeysRise, KeysRise-with_at, at-with_at_same, at-with_at_other}
use Rattle.aq_base.specs.Databases.{Database, Stored}
use Rattle.aq_base.specs.Writes.{Write, Writes}
use Rattle.aq_base.specs.LockModes.{Holdings, strength, beside, locked}
use Rattle.aq_base.specs.Works.{Saved}
use Rattle.aq_base.specs.declared.data.LockMode.{LockMode}
use Rattle.aq_base.specs.declared.data.LockMode.TheVariants.{Update, NoKeyUpdate}
use Rattle.aq_run.proofs.Parts.{Fact, Goes_with_copies, locked_in}
use Rattle.aq_run.proofs.Copies_fit.{is_at_most, Holds, Fits, at_most-self, at_most-trans, Fits-self, Fits-locked}

-- the weakest mode in which a row may be held that is changed, or deleted
abbrev pub writer_mode : Option Row → LockMode
writer_mode None = Update
writer_mode (Some values) = NoKeyUpdate

-- the rows and the changes are numbered up to the counters, and what is in the last database is held
pub record Written (rows numbers : ℕ) (db : Database) (writes : Writes) (holdings : Holdings) : Type 0 where
  pub rise : KeysRise writes
  pub drawn : (row : ℕ) (one : Write) → at row writes ≡ Some one → row ≤ rows
  pub numbered : (row : ℕ) (one : Write) → at row writes ≡ Some one → one.number ≤ numbers
  pub guarded : (row : ℕ) (one : Write) (stored : Stored) → at row writes ≡ Some one → at row db ≡ Some stored → Holds row (writer_mode one.image) holdings

-- a row is written in the same version, or in a later one
pub record Rewritten (row : ℕ) (one : Write) (writes : Writes) : Type 0 where
  pub later : Write
  pub stands : at row writes ≡ Some later
  pub rises : one.number ≤ later.number
  pub same : one.number ≡ later.number → one ≡ later

abbrev pub Within : Writes → Writes → Type 0
Within few many = (row : ℕ) (one : Write) → at row few ≡ Some one → Rewritten row one many

-- the copies, the latest first
abbrev pub Copies_written : ℕ → ℕ → Database → Writes → List Saved → Type 0
Copies_written rows numbers db present [] = Unit {0}
Copies_written rows numbers db present (saved ∷ others) =
    Written rows numbers db saved.work.writes saved.work.holdings × (Within saved.work.writes present × Copies_written rows numbers db saved.work.writes others)

abbrev pub Rows_written : ℕ → ℕ → Database → Fact
Rows_written rows numbers db writes holdings saved = Written rows numbers db writes holdings × Copies_written rows numbers db writes saved

-- ---- rows that are written again

pub Within-self : (writes : Writes) → Within writes writes
Within-self writes row one is = record { later = one; stands = is; rises = omega arith; same = λ _. refl }

pub Within-trans : (one two three : Writes) → Within one two → Within two three → Within one three
Within-trans one two three first second row write is =
    let here : Rewritten row write two = first row write is in
    let there : Rewritten row here.later three = second row here.later here.stands in
    record {
      later = there.later;
      stands = there.stands;
      rises = let a = here.rises in let b = there.rises in omega arith;
      same = λ e. let a = here.rises in let b = there.rises in here.same (omega (arith, e)) ∙ there.same (omega (arith, e));
    }

-- ---- a map with a value more

pub put-cases : {X : Type 0} (q n : ℕ) (x y : X) (entries : List (ℕ × X)) → at q (with_at n x entries) ≡ Some y → ((q ≡ n) × (x ≡ y)) ⊎ ((q ≢ n) × (at q entries ≡ Some y))
put-cases q n x y entries is =
    ⊎_elim (λ (same : q ≡ n). inl (same, same_Some x y (sym (at-with_at_same n x entries) ∙ ap (λ k. at k (with_at n x entries)) (sym same) ∙ is)))
    (λ (other : q ≢ n). inr (other, sym (at-with_at_other q n x entries other) ∙ is)) (cases_eq q n)

-- ---- holding

stronger_right : (a b : LockMode) (c : Bool) → nat_le (strength a) (strength b) ≡ c → is_at_most b (if c then b else a) ≡ true
stronger_right a b true e = at_most-self b
stronger_right a b false e = grind (arith, nat_tests, e)

at_most-beside : (mode : LockMode) (held : Option LockMode) → is_at_most mode (beside mode held) ≡ true
at_most-beside mode None = at_most-self mode
at_most-beside mode (Some held) = stronger_right held mode (nat_le (strength held) (strength mode)) refl

pub Holds-locked : (row : ℕ) (wanted mode : LockMode) (holdings : Holdings) → is_at_most wanted mode ≡ true → Holds row wanted (locked row mode holdings)
Holds-locked row wanted mode holdings enough =
    record {
      held = beside mode (at row holdings);
      stands = at-with_at_same row (beside mode (at row holdings)) holdings;
      enough = at_most-trans wanted mode (beside mode (at row holdings)) enough (at_most-beside mode (at row holdings));
    }

pub Holds-fits : (row : ℕ) (mode : LockMode) (few many : Holdings) → Fits few many → Holds row mode few → Holds row mode many
Holds-fits row mode few many fits holds =
    let more : Holds row holds.held many = fits row holds.held holds.stands in
    record { held = more.held; stands = more.stands; enough = at_most-trans mode holds.held more.held holds.enough more.enough }

pub Fits-locked_in : (row : ℕ) (lock : Option LockMode) (holdings : Holdings) → Fits holdings (locked_in row lock holdings)
Fits-locked_in row None holdings = Fits-self holdings
Fits-locked_in row (Some mode) holdings = Fits-locked row mode holdings

-- ---- copies

Copies_written-more : (rows numbers : ℕ) (db : Database) (present more : Writes) (saved : List Saved) → Within present more → Copies_written rows numbers db present saved → Copies_written rows numbers db more saved
Copies_written-more rows numbers db present more [] within copies = tt
Copies_written-more rows numbers db present more (saved ∷ others) within copies = (copies.0, (Within-trans saved.work.writes present more copies.1.0 within, copies.1.1))

Copies_written-drop : (rows numbers : ℕ) (db : Database) (present : Writes) (n : ℕ) (saved : List Saved) → Copies_written rows numbers db present saved → Copies_written rows numbers db present (drop n saved)
Copies_written-drop rows numbers db present zero saved copies = copies
Copies_written-drop rows numbers db present (suc n) [] copies = tt
Copies_written-drop rows numbers db present (suc n) (saved ∷ others) copies =
    Copies_written-drop rows numbers db present n others (Copies_written-more rows numbers db saved.work.writes present others copies.1.0 copies.1.1)

pub Rows_written-copies : (rows numbers : ℕ) (db : Database) → Goes_with_copies (Rows_written rows numbers db)
Rows_written-copies rows numbers db =
    record {
      starts = (record { rise = tt; drawn = λ row one is. absurd (none-some one is); numbered = λ row one is. absurd (none-some one is); guarded = λ row one stored is there. absurd (none-some one is) }, tt);
      drops = λ n writes holdings saved is. (is.0, Copies_written-drop rows numbers db writes n saved is.1);
      saves = λ one saved is. (is.0, (is.0, (Within-self one.work.writes, is.1)));
      returns = λ writes holdings one saved is. (is.1.0, is.1.1.1);
    }

-- ---- a change

pub Within-put : (rows numbers : ℕ) (db : Database) (row : ℕ) (version : Write) (writes : Writes) (holdings : Holdings) → version.number ≡ numbers + 1 → Written rows numbers db writes holdings →
    Within writes (with_at row version writes)
Within-put rows numbers db row version writes holdings number written q one is =
    ⊎_elim
    (λ (same : q ≡ row).
    let low = written.numbered q one is in
    record {
      later = version;
      stands = ap (λ k. at k (with_at row version writes)) same ∙ at-with_at_same row version writes;
      rises = omega (arith, number);
      same = λ e. absurd (omega (arith, number, e));
    })
    (λ (other : q ≢ row). record { later = one; stands = at-with_at_other q row version writes other ∙ is; rises = omega arith; same = λ _. refl })
    (cases_eq q row)

module _ (rows more numbers : ℕ) (db : Database) (grow : rows ≤ more) where
  Written-grow : (writes : Writes) (holdings : Holdings) → Written rows numbers db writes holdings → Written more (numbers + 1) db writes holdings
  Written-grow writes holdings written =
      record {
        rise = written.rise;
        drawn = λ row one is. let low = written.drawn row one is in omega arith;
        numbered = λ row one is. let low = written.numbered row one is in omega arith;
        guarded = written.guarded;
      }

  pub Copies_written-grow : (present : Writes) (saved : List Saved) → Copies_written rows numbers db present saved → Copies_written more (numbers + 1) db present saved
  Copies_written-grow present [] copies = tt
  Copies_written-grow present (saved ∷ others) copies =
      (Written-grow saved.work.writes saved.work.holdings copies.0, (copies.1.0, Copies_written-grow saved.work.writes others copies.1.1))

  pub Rows_written-grow : (writes : Writes) (holdings : Holdings) (saved : List Saved) → Rows_written rows numbers db writes holdings saved → Rows_written more (numbers + 1) db writes holdings saved
  Rows_written-grow writes holdings saved is = (Written-grow writes holdings is.0, Copies_written-grow writes saved is.1)

  Written-put : (row table : ℕ) (image : Option Row) (lock : Option LockMode) (writes : Writes) (holdings : Holdings) → row ≤ more →
      ((stored : Stored) → at row db ≡ Some stored → Holds row (writer_mode image) (locked_in row lock holdings)) → Written rows numbers db writes holdings →
      Written more (numbers + 1) db (with_at row (record { table = table; image = image; number = numbers + 1 }) writes) (locked_in row lock holdings)
  Written-put row table image lock writes holdings within held written =
      let version : Write = record { table = table; image = image; number = numbers + 1 } in
      record {
        rise = KeysRise-with_at row version writes written.rise;
        drawn = λ q one is.
            ⊎_elim (λ (here : (q ≡ row) × (version ≡ one)). let e = here.0 in omega (arith, e))
            (λ (there : (q ≢ row) × (at q writes ≡ Some one)). let low = written.drawn q one there.1 in omega arith) (put-cases q row version one writes is);
        numbered = λ q one is.
            ⊎_elim (λ (here : (q ≡ row) × (version ≡ one)). let e : numbers + 1 ≡ one.number = ap (λ w. w.number) here.1 in omega (arith, e))
            (λ (there : (q ≢ row) × (at q writes ≡ Some one)). let low = written.numbered q one there.1 in omega arith) (put-cases q row version one writes is);
        guarded = λ q one stored is there.
            ⊎_elim
            (λ (here : (q ≡ row) × (version ≡ one)).
            subst (λ k. Holds k (writer_mode one.image) (locked_in row lock holdings)) (sym here.0)
            (subst (λ w. Holds row (writer_mode w.image) (locked_in row lock holdings)) here.1 (held stored (ap (λ k. at k db) (sym here.0) ∙ there))))
            (λ (elsewhere : (q ≢ row) × (at q writes ≡ Some one)).
            Holds-fits q (writer_mode one.image) holdings (locked_in row lock holdings) (Fits-locked_in row lock holdings) (written.guarded q one stored elsewhere.1 there))
            (put-cases q row version one writes is);
      }

  pub Rows_written-put : (row table : ℕ) (image : Option Row) (lock : Option LockMode) (writes : Writes) (holdings : Holdings) (saved : List Saved) → row ≤ more →
      ((stored : Stored) → at row db ≡ Some stored → Holds row (writer_mode image) (locked_in row lock holdings)) → Rows_written rows numbers db writes holdings saved →
      Rows_written more (numbers + 1) db (with_at row (record { table = table; image = image; number = numbers + 1 }) writes) (locked_in row lock holdings) saved
  Rows_written-put row table image lock writes holdings saved within held is =
      let version : Write = record { table = table; image = image; number = numbers + 1 } in (
        Written-put row table image lock writes holdings within held is.0,
        Copies_written-more more (numbers + 1) db writes (with_at row version writes) saved (Within-put rows numbers db row version writes holdings refl is.0) (Copies_written-grow writes saved is.1),
      )

-- ---- a lock

pub Rows_written-locked : (rows numbers : ℕ) (db : Database) (row : ℕ) (mode : LockMode) (writes : Writes) (holdings : Holdings) (saved : List Saved) → Rows_written rows numbers db writes holdings saved →
    Rows_written rows numbers db writes (locked row mode holdings) saved
Rows_written-locked rows numbers db row mode writes holdings saved is =
    let written : Written rows numbers db writes holdings = is.0 in (
      record {
        rise = written.rise;
        drawn = written.drawn;
        numbered = written.numbered;
        guarded = λ q one stored mine there. Holds-fits q (writer_mode one.image) holdings (locked row mode holdings) (Fits-locked row mode holdings) (written.guarded q one stored mine there);
      },
      is.1,
    )
