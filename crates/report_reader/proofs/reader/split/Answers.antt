use Rattle.std.proofs.{Common.{rules, tests, subst}, lemmas.Iterator.YieldsList-from_slice, lemmas.Iterator.Search.position_from_yields_List}
use Rattle.report_reader.proofs.Pieces.{is_end, FirstPiece, first_piece}
use Rattle.report_reader.proofs.reader.split.Goals as goal

pub returns-in-Some : goal.returns-in-Some
returns-in-Some c =
    subst (FirstPiece c.args.text.now) c.in-Some.is (first_piece c.args.text.now c.position.result
    (position_from_yields_List is_end _ _ c.position.result c.position.ensures.ran (YieldsList-from_slice _ c.iter.ensures.rest) (λ x b q k. search (rules, tests))))

pub returns-in-None : goal.returns-in-None
returns-in-None c =
    subst (FirstPiece c.args.text.now) c.in-None.is (first_piece c.args.text.now c.position.result
    (position_from_yields_List is_end _ _ c.position.result c.position.ensures.ran (YieldsList-from_slice _ c.iter.ensures.rest) (λ x b q k. search (rules, tests))))
