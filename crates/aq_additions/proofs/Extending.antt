-- What the steps of a statement leave as it was.
use Rattle.std.proofs.Common.{◌≡◌, ℕ, List, [], ◌∷◌, ◌++◌, Option, Some, None, length, map, take, drop, slice_get, slice_set, refl, ap, sym, ◌∙◌, subst, append_assoc}
use Rattle.std.proofs.lemmas.List.{take-append-drop, take-set}
use Rattle.std.proofs.Math.Seq.{take-length, take-append_seam}
use Rattle.aq_base.specs.Names.{Text}
use Rattle.aq_base.specs.declared.catalog.Table.{Table}
use Rattle.aq_base.specs.declared.catalog.UniqueKey.{UniqueKey}
use Rattle.aq_base.specs.declared.catalog.ForeignKey.{ForeignKey}
use Rattle.aq_base.specs.declared.catalog.Constraint.{Constraint}
use Rattle.aq_base.specs.declared.catalog.Trigger.{Trigger}
use Rattle.aq_catalog.specs.Catalogs.{Catalog, number_of_column}
use Rattle.aq_setup.specs.Tables.{with_not_null, without_nulls}
use Rattle.aq_catalog.specs.Marks.{with_columns_not_null}
use Rattle.aq_additions.specs.Steps.{Follows, Extends, nulls_in}

pub follows_itself : (n : ℕ) (cat : Catalog) → Follows n cat cat
follows_itself n cat =
    record {
      tables = refl;
      keys = take-length cat.keys;
      primaries = take-length cat.primaries;
      fks = take-length cat.fks;
      constraints = take-length cat.constraints;
      functions = take-length cat.functions;
      triggers = take-length cat.triggers;
    }

front_of : {X : Type 0} (xs ys : List X) → take (length xs) ys ≡ xs → ys ≡ xs ++ drop (length xs) ys
front_of xs ys h = sym (take-append-drop (length xs) ys) ∙ ap (λ l. l ++ drop (length xs) ys) h

front_after : {X : Type 0} (xs ys zs : List X) → take (length xs) ys ≡ xs → take (length ys) zs ≡ ys → take (length xs) zs ≡ xs
front_after xs ys zs first second =
    ap (take (length xs)) (front_of ys zs second ∙ ap (λ l. l ++ drop (length ys) zs) (front_of xs ys first) ∙ append_assoc xs (drop (length xs) ys) (drop (length ys) zs))
    ∙ take-append_seam xs (drop (length xs) ys ++ drop (length ys) zs)

pub follows_after : (n : ℕ) (a b c : Catalog) → Follows n a b → Follows n b c → Follows n a c
follows_after n a b c first second =
    record {
      tables = second.tables ∙ first.tables;
      keys = front_after a.keys b.keys c.keys first.keys second.keys;
      primaries = front_after a.primaries b.primaries c.primaries first.primaries second.primaries;
      fks = front_after a.fks b.fks c.fks first.fks second.fks;
      constraints = front_after a.constraints b.constraints c.constraints first.constraints second.constraints;
      functions = front_after a.functions b.functions c.functions first.functions second.functions;
      triggers = front_after a.triggers b.triggers c.triggers first.triggers second.triggers;
    }

pub extends_itself : (cat : Catalog) → Extends cat cat
unfolding Extends
extends_itself cat = λ n. follows_itself n cat

pub extends_after : (a b c : Catalog) → Extends a b → Extends b c → Extends a c
unfolding Extends
extends_after a b c first second = λ n. follows_after n a b c (first n) (second n)

pub follows_extended : (n : ℕ) (a b : Catalog) → Extends a b → Follows n a b
unfolding Extends
follows_extended n a b h = h n

pub extends_key : (cat : Catalog) (x : UniqueKey) → Extends cat (record cat { keys = cat.keys ++ x ∷ [] })
unfolding Extends
extends_key cat x = λ n. record { tables = refl; keys = take-append_seam cat.keys (x ∷ []); primaries = take-length cat.primaries; fks = take-length cat.fks; constraints = take-length cat.constraints; functions = take-length cat.functions; triggers = take-length cat.triggers }

pub extends_primary : (cat : Catalog) (x : ℕ) → Extends cat (record cat { primaries = cat.primaries ++ x ∷ [] })
unfolding Extends
extends_primary cat x = λ n. record { tables = refl; keys = take-length cat.keys; primaries = take-append_seam cat.primaries (x ∷ []); fks = take-length cat.fks; constraints = take-length cat.constraints; functions = take-length cat.functions; triggers = take-length cat.triggers }

pub extends_fk : (cat : Catalog) (x : ForeignKey) → Extends cat (record cat { fks = cat.fks ++ x ∷ [] })
unfolding Extends
extends_fk cat x = λ n. record { tables = refl; keys = take-length cat.keys; primaries = take-length cat.primaries; fks = take-append_seam cat.fks (x ∷ []); constraints = take-length cat.constraints; functions = take-length cat.functions; triggers = take-length cat.triggers }

pub extends_constraint : (cat : Catalog) (x : Constraint) → Extends cat (record cat { constraints = cat.constraints ++ x ∷ [] })
unfolding Extends
extends_constraint cat x = λ n. record { tables = refl; keys = take-length cat.keys; primaries = take-length cat.primaries; fks = take-length cat.fks; constraints = take-append_seam cat.constraints (x ∷ []); functions = take-length cat.functions; triggers = take-length cat.triggers }

pub extends_triggers : (cat : Catalog) (xs : List Trigger) → Extends cat (record cat { triggers = cat.triggers ++ xs })
unfolding Extends
extends_triggers cat xs = λ n. record { tables = refl; keys = take-length cat.keys; primaries = take-length cat.primaries; fks = take-length cat.fks; constraints = take-length cat.constraints; functions = take-length cat.functions; triggers = take-append_seam cat.triggers xs }

pub extends_to : (a b c : Catalog) → c ≡ b → Extends a b → Extends a c
extends_to a b c same h = subst (Extends a) (sym same) h

pub extends_by_trigger : (a b c : Catalog) (t : Trigger) → Extends a b → c ≡ record b { triggers = b.triggers ++ t ∷ [] } → Extends a c
extends_by_trigger a b c t h pushed = extends_after a b c h (extends_to b (record b { triggers = b.triggers ++ t ∷ [] }) c pushed (extends_triggers b (t ∷ [])))

-- ---- columns that hold no null

abbrev put_nulls : Catalog → ℕ → Option Table → List ℕ → Catalog
put_nulls cat table o nulls =
    record cat { tables = elim o as (λ _. List Table) [ None ↦ cat.tables | Some t ↦ slice_set cat.tables table (record t { not_null = nulls }) ] }

abbrev defined_nulls : Catalog → ℕ → Option Table → List Text → Catalog
defined_nulls cat table o names =
    elim o [ None ↦ cat | Some t ↦ record cat { tables = slice_set cat.tables table (without_nulls (map (number_of_column t.cols) names) t) } ]

by_table : (cat : Catalog) (table : ℕ) (names : List Text) (o : Option Table) → put_nulls cat table o (nulls_in o names) ≡ defined_nulls cat table o names
by_table cat table names None = refl
by_table cat table names (Some t) = refl

pub set_as_defined : (table : ℕ) (names : List Text) (cat : Catalog) → with_columns_not_null table (nulls_in (slice_get cat.tables table) names) cat ≡ with_not_null table names cat
set_as_defined table names cat = by_table cat table names (slice_get cat.tables table)

pub set_in_step : (table : ℕ) (names : List Text) (nulls : List ℕ) (mid new wanted : Catalog) → new ≡ with_columns_not_null table nulls mid → mid ≡ wanted → nulls ≡ nulls_in (slice_get wanted.tables table) names → new ≡ with_not_null table names wanted
set_in_step table names nulls mid new wanted first second third =
    first
    ∙ ap (with_columns_not_null table nulls) second
    ∙ ap (λ n. with_columns_not_null table n wanted) third
    ∙ set_as_defined table names wanted

take_set : {X : Type 0} (xs : List X) (n : ℕ) (x : X) → take n (slice_set xs n x) ≡ take n xs
take_set xs n x = take-set xs n x

pub follows_not_null : (n : ℕ) (cols : List ℕ) (cat : Catalog) → Follows n cat (with_columns_not_null n cols cat)
follows_not_null n cols cat = by_table (slice_get cat.tables n)
  where
    by_table : (o : Option Table) → Follows n cat (put_nulls cat n o cols)
    by_table None = follows_itself n cat
    by_table (Some t) = record { tables = take_set cat.tables n (record t { not_null = cols }); keys = take-length cat.keys; primaries = take-length cat.primaries; fks = take-length cat.fks; constraints = take-length cat.constraints; functions = take-length cat.functions; triggers = take-length cat.triggers }
