use Rattle.aq_causes.proofs.Bytes.{Gave-more, OnErr-of}
use Rattle.aq_causes.proofs.reading.read_all.Goals as goal

pub returns-in_err-extend_from_slice-in-Got-clause-err :
    goal.returns-in_err-extend_from_slice-in-Got-clause-err
returns-in_err-extend_from_slice-in-Got-clause-err g c =
    let taken = c.in-Got.ensures.cases in
    OnErr-of _ (Gave-more _ _ _ _ _ _ c.pieces.invariant.given taken.0 taken.1 taken.2)
