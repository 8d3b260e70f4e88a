use Rattle.std.proofs.Common.{◌≡◌, ◌<◌, ◌≤◌, ◌∙◌, List, [], arith, length, sym, subst, get_or}
use Rattle.simplicial_law.specs.Names.{Chain}
use Rattle.complex_index.specs.Names.{level}
use Rattle.certificate_law.specs.Names.{Asks}
use Rattle.certificate_walk.proofs.Names.{walk_passed}
use Rattle.class_check.{specs.Questions.{chain_lines, condition_of}, proofs.WalkLemmas.{passed_on, ready_here, walk_ends, walk_goes_on, walk_stops_here}}
use Rattle.class_check.proofs.walk.chains_fault.Goals as goal

pub returns-in_err-at-clause-walk : goal.returns-in_err-at-clause-walk
returns-in_err-at-clause-walk g c = λ part index ready leads.
    let p = g.row.P in
    let question = c.args.question in
    let n = c.args.n in
    let here = level c.args.index.now n in
    let chains = c.args.chains.now in
    let i = c.loop-chain.chain-index in
    let chain = c.as_slice.result.now in
    let inside : i < length chains = subst (λ (xs : List Chain). i < length xs) c.as_slice-chain-items.ensures c.loop-chain-test.true in
    let is : chain ≡ get_or chains i chain = subst (λ (xs : List Chain). chain ≡ get_or xs i chain) c.as_slice-chain-items.ensures (subst (λ (x : Chain). x ≡ get_or c.as_slice-chain-items.result.now i x) (sym c.as_slice.ensures) c.chain-item.is) in
    let h = c.loop-chain.invariant.walked part index ready leads in
    let answer = c.in_ok-passed.ensures.told part _ index (ready_here p question part n here c.args.before chains i chain inside is c.loop-chain.leads.items c.loop-chain.at h) h.leads in
    walk_passed (Asks p (condition_of question)) c.args.before (chain_lines question part n [] chains) c.in_err-at.field-0.0 c.from_residual-in_err-at.result c.from_residual-in_err-at.ensures.1
    (walk_stops_here p question part n here c.args.before chains i chain inside is c.loop-chain.leads.items c.loop-chain.at h c.passes.new.leads.items c.in_ok-passed.passed c.ask.result c.ask.ensures answer c.in_err-at.field-0.0 c.in_err-at.was)

pub loop-chain-preserved : goal.loop-chain-preserved
loop-chain-preserved g c =
    let p = g.row.P in
    let question = c.args.question in
    let n = c.args.n in
    let here = level c.args.index.now n in
    let chains = c.args.chains.now in
    let i = c.loop-chain.chain-index in
    let chain = c.as_slice.result.now in
    let inside : i < length chains = subst (λ (xs : List Chain). i < length xs) c.as_slice-chain-items.ensures c.loop-chain-test.true in
    let is : chain ≡ get_or chains i chain = subst (λ (xs : List Chain). chain ≡ get_or xs i chain) c.as_slice-chain-items.ensures (subst (λ (x : Chain). x ≡ get_or c.as_slice-chain-items.result.now i x) (sym c.as_slice.ensures) c.chain-item.is) in
    record {
      items = c.loop-chain.invariant.items;
      len = c.passes.ensures.len ∙ c.loop-chain.invariant.len;
      count = (let e = (passed_on c.in_ok-passed.passed c.loop-chain.at c.in_ok-at.at (sym c.in_ok-at.was ∙ c.ask.ensures)).1 in let k = c.loop-chain.invariant.count in omega (arith, e, k));
      walked = λ part index ready leads.
          let h = c.loop-chain.invariant.walked part index ready leads in
          let answer = c.in_ok-passed.ensures.told part _ index (ready_here p question part n here c.args.before chains i chain inside is c.loop-chain.leads.items c.loop-chain.at h) h.leads in
          walk_goes_on p question part n here c.args.before chains i chain inside is c.loop-chain.leads.items c.loop-chain.at h c.passes.new.leads.items c.in_ok-passed.passed c.ask.result c.ask.ensures answer c.in_ok-at.at c.in_ok-at.was;
    }

pub returns-clause-walk : goal.returns-clause-walk
returns-clause-walk g c = λ part index ready leads.
    let chains = c.args.chains.now in
    let all : length chains ≤ c.loop-chain.chain-index = subst (λ (xs : List Chain). length xs ≤ c.loop-chain.chain-index) c.as_slice-chain-items.ensures c.loop-chain-test.false in
    walk_ends g.row.P c.args.question part c.args.n (level c.args.index.now c.args.n) c.args.before chains c.loop-chain.chain-index c.loop-chain.leads.items c.loop-chain.at all (c.loop-chain.invariant.walked part index ready leads)
