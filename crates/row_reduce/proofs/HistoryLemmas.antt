-- Stored rows and classes with the vectors behind them.
use Rattle.std.proofs.Common.{◌≡◌, ℕ, zero, suc, ◌+◌, ◌*◌, ◌<◌, ◌≤◌, ◌⊎◌, List, [], ◌∷◌, ◌++◌, map, length, get_or, arith, refl, sym, ap, ap₂, inl, inr}
use Rattle.row_reduce.{proofs.Below.{get_or_default, Each, Among, KernelVector, ImageVector, unit_vector, image_place, IsBelow, Congruent_of, Congruent_trans, each_map, get_before}, specs.Names.{Stored, Class, stored_place, added_from, IsFrom, image_of, images_of, kernel_of}}

pub images_push : {p : ℕ} (ss : List (Stored p)) (fs : List (ℕ → ℕ)) (done : List (ImageVector ℕ)) (s : Stored p) (f : ℕ → ℕ) → length fs ≡ length ss
    → images_of (ss ++ (s ∷ [])) (fs ++ (f ∷ [])) done ≡ image_of s f ∷ images_of ss fs done
images_push [] [] done s f e = refl
images_push [] (g ∷ fs) done s f e = absurd (omega arith)
images_push (t ∷ ss) [] done s f e = absurd (omega arith)
images_push (t ∷ ss) (g ∷ fs) done s f e = images_push ss fs (image_of t g ∷ done) s f (omega arith)

pub kernel_push : {p : ℕ} (cs : List (Class p)) (vs : List (ℕ → ℕ)) (done : List KernelVector) (c : Class p) (v : ℕ → ℕ) → length vs ≡ length cs
    → kernel_of (cs ++ (c ∷ [])) (vs ++ (v ∷ [])) done ≡ record { place = c.place; vector = v } ∷ kernel_of cs vs done
kernel_push [] [] done c v e = refl
kernel_push [] (w ∷ vs) done c v e = absurd (omega arith)
kernel_push (b ∷ cs) [] done c v e = absurd (omega arith)
kernel_push (b ∷ cs) (w ∷ vs) done c v e = kernel_push cs vs (record { place = b.place; vector = w } ∷ done) c v (omega arith)

each_done : {p : ℕ} (P : ImageVector ℕ → Type 0) (ss : List (Stored p)) (fs : List (ℕ → ℕ)) (done : List (ImageVector ℕ)) → Each P (images_of ss fs done) → Each P done
each_done P [] fs done h = h
each_done P (s ∷ ss) [] done h = h
each_done P (s ∷ ss) (f ∷ fs) done h = (each_done P ss fs (image_of s f ∷ done) h).1

-- what holds of each image holds at each number
pub each_number : {p : ℕ} (P : ImageVector ℕ → Type 0) (ss : List (Stored p)) (fs : List (ℕ → ℕ)) (done : List (ImageVector ℕ)) → Each P (images_of ss fs done) → length fs ≡ length ss
    → (k : ℕ) (d : Stored p) (e : ℕ → ℕ) → k < length ss → P (image_of (get_or ss k d) (get_or fs k e))
each_number P [] fs done h q k d e b = absurd (omega arith)
each_number P (s ∷ ss) [] done h q k d e b = absurd (omega arith)
each_number P (s ∷ ss) (f ∷ fs) done h q zero d e b = (each_done P ss fs (image_of s f ∷ done) h).0
each_number P (s ∷ ss) (f ∷ fs) done h q (suc k) d e b = each_number P ss fs (image_of s f ∷ done) h (omega arith) k d e (omega arith)

pub among_images : {p : ℕ} (ss : List (Stored p)) (fs : List (ℕ → ℕ)) (done : List (ImageVector ℕ)) (t : ℕ) → Among t (map image_place (images_of ss fs done))
    → Among t (map stored_place ss) ⊎ Among t (map image_place done)
among_images [] fs done t m = inr m
among_images (s ∷ ss) [] done t m = inr m
among_images (s ∷ ss) (f ∷ fs) done t m =
    elim (among_images ss fs (image_of s f ∷ done) t m) [
      | inl a ↦ inl (inr a)
      | inr b ↦ elim b [ inl e ↦ inl (inl e) | inr c ↦ inr c ]
    ]

pub added_default : (p k : ℕ) (fs : List (ℕ → ℕ)) (d e : ℕ → ℕ) (hs : List (ℕ × ℕ)) (x : ℕ) → k ≤ length fs → IsBelow k hs → added_from fs d hs x ≡ added_from fs e hs x
added_default p k fs d e [] x b h = refl
added_default p k fs d e (g ∷ hs) x b h =
    ap₂ (λ (f : ℕ → ℕ) n. g.1 * f x + n) (get_or_default fs g.0 d e (let q = h.0 in omega arith)) (added_default p k fs d e hs x b h.1)

pub added_more : (p k : ℕ) (fs : List (ℕ → ℕ)) (f d : ℕ → ℕ) (hs : List (ℕ × ℕ)) (x : ℕ) → k ≤ length fs → IsBelow k hs → added_from (fs ++ (f ∷ [])) d hs x ≡ added_from fs d hs x
added_more p k fs f d [] x b h = refl
added_more p k fs f d (g ∷ hs) x b h =
    ap₂ (λ (f : ℕ → ℕ) n. g.1 * f x + n) (get_before fs f g.0 d (let q = h.0 in omega arith)) (added_more p k fs f d hs x b h.1)

-- a combination does not change where more are listed
pub from_more : (p k : ℕ) (fs : List (ℕ → ℕ)) (f : ℕ → ℕ) (source : ℕ) (hs : List (ℕ × ℕ)) (v : ℕ → ℕ) → k ≤ length fs → IsFrom p k fs source hs v → IsFrom p k (fs ++ (f ∷ [])) source hs v
from_more p k fs f source hs v b h = record { fits = h.fits; sum = λ d x. Congruent_trans (h.sum d x) (Congruent_of (ap (λ n. unit_vector source x + n) (sym (added_more p k fs f d hs x b h.fits)))) }

pub below_wider : (k n : ℕ) → k ≤ n → (hs : List (ℕ × ℕ)) → IsBelow k hs → IsBelow n hs
below_wider k n b hs h = each_map {Q = λ (e : ℕ × ℕ). e.0 < n} (λ e c. omega arith) hs h

pub from_wider : (p k n : ℕ) (fs : List (ℕ → ℕ)) (source : ℕ) (hs : List (ℕ × ℕ)) (v : ℕ → ℕ) → k ≤ n → IsFrom p k fs source hs v → IsFrom p n fs source hs v
from_wider p k n fs source hs v b h = record { fits = below_wider k n b hs h.fits; sum = h.sum }
