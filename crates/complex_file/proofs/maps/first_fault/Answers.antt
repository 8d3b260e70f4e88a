use Rattle.std.proofs.Common.{◌∙◌, Some, ap, arith}
use Rattle.complex_file.{specs.Names.InputKind, proofs.MapLemmas.{send_at, send_not_yet}}
use Rattle.complex_file.proofs.maps.first_fault.Goals as goal

pub returns-in-Err-Kind : goal.returns-in-Err-Kind
returns-in-Err-Kind c =
    ap (λ (k : InputKind). Some (record { kind = k; at = c.loop-at.at })) c.in-Err-Kind.kind-is
    ∙ send_at c.args.from.now c.args.to.now c.args.list.now c.loop-at.sends c.loop-at.at _ c.in-Err-Kind.field-0 c.in-Err-Kind.kind _
    (omega arith) c.in-Err-Kind.ensures c.in-Err-Kind.field-0-is c.loop-at.invariant

pub loop-at-preserved : goal.loop-at-preserved
loop-at-preserved c =
    send_not_yet c.args.from.now c.args.to.now c.args.list.now c.loop-at.sends c.add.new.self c.loop-at.at _ _
    (omega arith) c.in-Ok.ensures c.loop-at.invariant
