-- The faults of an ALTER TABLE are those of its one constraint.
use Rattle.std.proofs.Common.{◌≡◌, ℕ, List, [], ◌++◌, Some, Result, slice_get, ap, sym, ◌∙◌, subst}
use Rattle.std.proofs.lemmas.List.{append-nil}
use Rattle.std.proofs.lemmas.Option.{same_Some}
use Rattle.aq_base.specs.declared.table.AlterTable.{AlterTable}
use Rattle.aq_catalog.specs.Catalogs.{Catalog, number_of_table, names_taken, table_number}
use Rattle.aq_setup.specs.Constraints.{NamedConstraint, name_of}
use Rattle.aq_setup.specs.Tables.{altered, referring_of, with_constraint_key}
use Rattle.aq_refusals.specs.declared.fault.CatFault.{CatFault}
use Rattle.aq_refusals.specs.Answers.{Tells}
use Rattle.aq_tables.specs.References.{reference_faults}
use Rattle.aq_define.specs.Stages.{alter_first, alter_faults}

abbrev the_one : Catalog → AlterTable → NamedConstraint
the_one cat s = record { name = name_of (names_taken cat (table_number cat s.table)) s.table s.constraint; constraint = s.constraint }

pub alter_told : {T : Type 0} (cat : Catalog) (s : AlterTable) (all shown : List NamedConstraint) (n : NamedConstraint) (number : ℕ) (r : Result T CatFault) → all ≡ (altered cat s).constraints → shown ≡ all → alter_first cat s shown ≡ [] → Some n ≡ slice_get all 0 → number ≡ number_of_table cat s.table → Tells (reference_faults (with_constraint_key number n.name n.constraint cat) s.table (referring_of n)) r → Tells (alter_faults cat s) r
alter_told cat s all shown n number r all-is shown-is none first number-is told =
    let one : NamedConstraint = the_one cat s in
    let n-is : n ≡ one = same_Some n one (first ∙ ap (λ l. slice_get l 0) all-is) in
    let by_one : Tells (reference_faults (with_constraint_key number one.name one.constraint cat) s.table (referring_of one)) r = subst (λ (m : NamedConstraint). Tells (reference_faults (with_constraint_key number m.name m.constraint cat) s.table (referring_of m)) r) n-is told in
    let by_number : Tells (reference_faults (with_constraint_key (number_of_table cat s.table) one.name one.constraint cat) s.table (referring_of one)) r = subst (λ k. Tells (reference_faults (with_constraint_key k one.name one.constraint cat) s.table (referring_of one)) r) number-is by_one in
    let by_list : Tells (reference_faults (with_constraint_key (number_of_table cat s.table) one.name one.constraint cat) s.table (referring_of one ++ [])) r = subst (λ found. Tells (reference_faults (with_constraint_key (number_of_table cat s.table) one.name one.constraint cat) s.table found) r) (sym (append-nil (referring_of one))) by_number in
    let none-is : alter_first cat s (altered cat s).constraints ≡ [] = sym (ap (alter_first cat s) (shown-is ∙ all-is)) ∙ none in
    subst (λ front. Tells (front ++ reference_faults (with_constraint_key (number_of_table cat s.table) one.name one.constraint cat) s.table (referring_of one ++ [])) r) (sym none-is) by_list
