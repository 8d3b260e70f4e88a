use Rattle.report_reader.proofs.Sections.{degree_refused_below, degree_refused_classes, degree_whole}
use Rattle.report_reader.proofs.degree.degree_part.Goals as goal

pub returns-in_err-below-clause-reads : goal.returns-in_err-below-clause-reads
returns-in_err-below-clause-reads c = degree_refused_below c.args.prime c.args.rank c.args.reader.now c.belows.new.reader c.belows.new.reader c.belows.result c.in_err-below.field-0.0 c.from_residual.result c.belows.ensures c.in_err-below.was c.from_residual.ensures

pub returns-in_err-classes-clause-reads : goal.returns-in_err-classes-clause-reads
returns-in_err-classes-clause-reads c = λ f g fits. degree_refused_classes c.args.prime c.args.rank c.args.reader.now c.belows.new.reader c.classes.new.reader c.belows.result c.in_ok-below.below c.belows.ensures c.in_ok-below.was c.classes.result c.classes.ensures f g fits
    c.in_err-classes.field-0.0 c.classes.new.reader c.from_residual-in_err-classes.result c.in_err-classes.was c.from_residual-in_err-classes.ensures

pub returns-clause-reads : goal.returns-clause-reads
returns-clause-reads c = λ f g fits. degree_whole c.args.prime c.args.rank c.args.reader.now c.belows.new.reader c.classes.new.reader c.belows.result c.in_ok-below.below c.belows.ensures c.in_ok-below.was c.classes.result c.classes.ensures f g fits c.in_ok-classes.classes c.in_ok-classes.was
