-- The faults of a map.
use Rattle.std.proofs.Common.{◌≡◌, ℕ, ◌+◌, ◌<◌, ◌≤◌, refl, sym, ◌∙◌, ap, subst, arith, inl, inr, ◌⊎◌, Bool, false, cond, append_assoc, List, [], ◌∷◌, ◌++◌, length, Option, Some, None, Ok, Err, le-ltb, lt-ltb, append-nil, length-append}
use Rattle.linear_law.{specs.Names.Each, proofs.Names.each_append}
use Rattle.complex_file.specs.{Names.{or_later, end_fault, first_send_fault, map_fault, send_fault}, declared.fault.BlockFault.BlockFault, declared.kind.InputKind.InputKind}
use Rattle.certificate_law.specs.{Types.{Sent, ComplexPart, MapPart}, Names.{FailsAt, Asks, Stated, behind, induced_column, induced_stated, map_ends, numbered, send_stands, with_stands}}
use Rattle.certificate_walk.{specs.Names.{map_lines, FailsBehind, IsWalk}, specs.declared.stop.Stop.TheVariants.Fails, proofs.Names.{behind_each, map_length, walk_both, walk_one, walk_stops}}
use Rattle.block_check.specs.Blocks.{fault_line, under_map}

pub each_numbered : {X : Type 0} (P : Stated → Type 0) (line : ℕ → X → List Stated) (k : ℕ) (xs : List X) → ((k : ℕ) (x : X) → Each P (line k x)) → Each P (numbered line k xs)
each_numbered P line k [] h = tt
each_numbered P line k (x ∷ xs) h = each_append P (line k x) (numbered line (k + 1) xs) (h k x) (each_numbered P line (k + 1) xs h)

-- ---- the sends behind others, at places from `at` on

abbrev pub sent : ComplexPart → ComplexPart → List Sent → Sent → List Stated
sent c d before s = send_stands c d before s ∷ []

none_then : (o : Option InputKind) (at : ℕ) (later : Option BlockFault) → or_later o at later ≡ None → (o ≡ None) × (later ≡ None)
none_then None at later h = (refl, h)
none_then (Some kind) at later h = absurd cc

pub sends_free : (p : ℕ) (c d : ComplexPart) (at : ℕ) (earlier ss : List Sent) → first_send_fault c.facets d.facets earlier at ss ≡ None → Each (Asks p 1) (behind (sent c d) earlier ss) × (end_fault c.facets d.facets (earlier ++ ss) ≡ None)
sends_free p c d at earlier [] h = (tt, ap (end_fault c.facets d.facets) (append-nil earlier) ∙ (none_then (end_fault c.facets d.facets earlier) at None h).0)
sends_free p c d at earlier (s ∷ ss) h =
    let n = none_then (send_fault c.facets d.facets earlier s) at (first_send_fault c.facets d.facets (earlier ++ s ∷ []) (at + 1) ss) h in
    let r = sends_free p c d (at + 1) (earlier ++ s ∷ []) ss n.1 in
    ((n.0, r.0), ap (end_fault c.facets d.facets) (sym (append_assoc earlier (s ∷ []) ss)) ∙ r.1)

-- the fault of a send, and that of the end
pub record IsSendFault (p : ℕ) (c d : ComplexPart) (at : ℕ) (earlier ss : List Sent) (place : ℕ) : Type 0 where
  pub count : ℕ
  pub place_is : place ≡ at + count
  pub inside : count < length ss
  pub fails : FailsAt (Asks p 1) (behind (sent c d) earlier ss) (count + 1)

pub record IsEndFault (p : ℕ) (c d : ComplexPart) (at : ℕ) (earlier ss : List Sent) (place : ℕ) : Type 0 where
  pub place_is : place ≡ at + length ss
  pub free : Each (Asks p 1) (behind (sent c d) earlier ss)
  pub fails : end_fault c.facets d.facets (earlier ++ ss) ≡ None → ⊥

pub sends_fault : (p : ℕ) (c d : ComplexPart) (at : ℕ) (earlier ss : List Sent) (f : BlockFault) → first_send_fault c.facets d.facets earlier at ss ≡ Some f → IsSendFault p c d at earlier ss f.at ⊎ IsEndFault p c d at earlier ss f.at
sends_fault p c d at earlier [] f h = go (end_fault c.facets d.facets earlier) refl h
  where
    go : (o : Option InputKind) → end_fault c.facets d.facets earlier ≡ o → or_later o at None ≡ Some f → IsSendFault p c d at earlier [] f.at ⊎ IsEndFault p c d at earlier [] f.at
    go None e h = absurd cc
    go (Some kind) e h =
        let same : record { kind = kind; at = at } ≡ f = cc in
        inr (record {
          place_is = (let q : at ≡ f.at = ap (λ (g : BlockFault). g.at) same in let z : at ≡ at + 0 = omega arith in sym q ∙ z);
          free = tt;
          fails = λ n. let x : Some kind ≡ None = sym e ∙ ap (end_fault c.facets d.facets) (sym (append-nil earlier)) ∙ n in cc;
        })
sends_fault p c d at earlier (s ∷ ss) f h = go (send_fault c.facets d.facets earlier s) refl h (sends_fault p c d (at + 1) (earlier ++ s ∷ []) ss f)
  where
    go : (o : Option InputKind) → send_fault c.facets d.facets earlier s ≡ o → or_later o at (first_send_fault c.facets d.facets (earlier ++ s ∷ []) (at + 1) ss) ≡ Some f
        → (first_send_fault c.facets d.facets (earlier ++ s ∷ []) (at + 1) ss ≡ Some f → IsSendFault p c d (at + 1) (earlier ++ s ∷ []) ss f.at ⊎ IsEndFault p c d (at + 1) (earlier ++ s ∷ []) ss f.at)
        → IsSendFault p c d at earlier (s ∷ ss) f.at ⊎ IsEndFault p c d at earlier (s ∷ ss) f.at
    go (Some kind) e h r =
        let same : record { kind = kind; at = at } ≡ f = cc in
        inl (record {
          count = 0;
          place_is = (let q : at ≡ f.at = ap (λ (g : BlockFault). g.at) same in let z : at ≡ at + 0 = omega arith in sym q ∙ z);
          inside = omega arith;
          fails = record { before = []; at = send_stands c d earlier s; behind = behind (sent c d) (earlier ++ s ∷ []) ss; split = refl; number_is = refl; holds = tt; fails = λ n. let x : Some kind ≡ None = sym e ∙ n in cc };
        })
    go None e h r = elim (r h) [
      | inl i ↦ inl (record {
        count = i.count + 1;
        place_is = (let q = i.place_is in omega (arith, q));
        inside = (let q = i.inside in omega (arith, q));
        fails = record {
          before = send_stands c d earlier s ∷ i.fails.before;
          at = i.fails.at;
          behind = i.fails.behind;
          split = ap (λ xs. send_stands c d earlier s ∷ xs) i.fails.split;
          number_is = (let q = i.fails.number_is in omega (arith, q));
          holds = (e, i.fails.holds);
          fails = i.fails.fails;
        };
      })
      | inr i ↦ inr (record {
        place_is = (let q = i.place_is in omega (arith, q));
        free = (e, i.free);
        fails = λ n. i.fails (ap (end_fault c.facets d.facets) (append_assoc earlier (s ∷ []) ss) ∙ n);
      })
    ]

-- ---- the lines of a map behind its first

under_length : (c d : ComplexPart) (m : MapPart) → length (under_map c d m) + 1 ≡ map_lines m
under_length c d m = let l = map_length c d [] [] m in omega (arith, l)

abbrev blocks_in : ComplexPart → ComplexPart → MapPart → List Stated
blocks_in c d m = numbered (induced_stated c d m) 0 m.induced

blocks_free : (p : ℕ) (c d : ComplexPart) (m : MapPart) → Each (Asks p 1) (blocks_in c d m)
blocks_free p c d m = each_numbered (Asks p 1) (induced_stated c d m) 0 m.induced (λ k x. (tt, each_numbered (Asks p 1) (λ j y. induced_column c d m x j y ∷ with_stands y.primitive ∷ []) 0 x.columns (λ j y. (tt, (tt, tt)))))

pub under_free : (p : ℕ) (c d : ComplexPart) (m : MapPart) (first last : ℕ) → last + 1 ≡ first + map_lines m → map_fault c.facets d.facets m.sends ≡ None → IsWalk (Asks p 1) first (under_map c d m) (Ok last)
under_free p c d m first last e h =
    let l = under_length c d m in
    let f = sends_free p c d 0 [] m.sends h in
    (omega (arith, l, e), each_append (Asks p 1) (behind (sent c d) [] m.sends) (blocks_in c d m ++ map_ends c d m ∷ []) f.0 (each_append (Asks p 1) (blocks_in c d m) (map_ends c d m ∷ []) (blocks_free p c d m) (f.1, tt)))

at_send : (m : MapPart) (place before : ℕ) → place < length m.sends → fault_line m place before ≡ before + place + 2
at_send m place before b = ap (λ (t : Bool). cond t (before + place + 2) (before + map_lines m)) (lt-ltb place (length m.sends) b)

at_end : (m : MapPart) (place before : ℕ) → length m.sends ≤ place → fault_line m place before ≡ before + map_lines m
at_end m place before b = ap (λ (t : Bool). cond t (before + place + 2) (before + map_lines m)) (le-ltb place (length m.sends) b)

pub under_fails : (p : ℕ) (c d : ComplexPart) (m : MapPart) (before : ℕ) (f : BlockFault) → map_fault c.facets d.facets m.sends ≡ Some f → FailsBehind (Asks p 1) (before + 1) (under_map c d m) (fault_line m f.at before)
under_fails p c d m before f h = elim (sends_fault p c d 0 [] m.sends f h) [
  | inl i ↦ walk_stops (Asks p 1) (before + 1) (behind (sent c d) [] m.sends) (blocks_in c d m ++ map_ends c d m ∷ []) (Fails (fault_line m f.at before))
      (record {
        number = i.count + 1;
        line_is = (let q = i.place_is in let b = i.inside in let e = at_send m f.at before (omega (arith, q, b)) in omega (arith, e, q));
        fails = i.fails;
      })
  | inr i ↦
      let sends = behind (sent c d) [] m.sends in
      let line = before + 1 + length m.sends + length (blocks_in c d m) in
      let s = behind_each (send_stands c d) [] m.sends in
      let q = i.place_is in
      let u = length-append sends (blocks_in c d m ++ map_ends c d m ∷ []) in
      let v = length-append (blocks_in c d m) (map_ends c d m ∷ []) in
      let w = under_length c d m in
      let e = at_end m f.at before (omega (arith, q)) in
      let same : fault_line m f.at before ≡ line + 1 = omega (arith, s, u, v, w, e) in
      subst (λ (n : ℕ). FailsBehind (Asks p 1) (before + 1) (under_map c d m) n) (sym same)
      (walk_both (Asks p 1) (before + 1) sends (blocks_in c d m ++ map_ends c d m ∷ []) (before + 1 + length m.sends) (Err (Fails (line + 1))) (omega (arith, s), i.free)
      (walk_both (Asks p 1) (before + 1 + length m.sends) (blocks_in c d m) (map_ends c d m ∷ []) line (Err (Fails (line + 1))) (refl, blocks_free p c d m)
      (walk_one (Asks p 1) line (map_ends c d m) false (λ t. absurd cc) (λ t n. i.fails n))))
]

pub same_fault : (c d : ComplexPart) (m : MapPart) (from to : List (List ℕ)) (sends : List Sent) → c.facets ≡ from → d.facets ≡ to → sends ≡ m.sends → map_fault c.facets d.facets m.sends ≡ map_fault from to sends
same_fault c d m from to sends e f g i = map_fault (e i) (f i) (sym g i)
