-- The mask: what the code knows at each return.
use Rattle.std.specs.Prelude.{Result, Err, Ok}
use Prim.Native.Nat.{ℕ, ◌+◌, ◌-◌, ◌≤◌, ◌<◌}
use native.Mathlib.Omega.{arith}
use mathlib.Core.Path.{◌≡◌, refl, sym, ap, ◌∙◌}
use mathlib.Core.Bool.{Bool, true, false, ◌&&◌, cond}
use mathlib.Core.List.{List, [], ◌∷◌, ◌++◌}
use lib.ListN.{length, length-append, replicate}
use lib.Dec.{ltb}
use borrow.Author.Tests.{lt-ltb, le-ltb}
use Rattle.number.proofs.Clash.{clash}
use Rattle.format.specs.declared.Kind.{Kind}
use Rattle.format.specs.declared.Stop.{Stop}
use Rattle.format.specs.declared.Stop.TheVariants.{TooLong}
use Rattle.format.specs.declared.Form.TheVariants.{Top}
use Rattle.faults.specs.declared.Faults.{Faults}
use Rattle.format.specs.Limits.{depth_limit, length_limit}
use Rattle.format.specs.declared.Flaw.{Flaw}
use Rattle.format.specs.Parse.{Out, fault, got}
use Rattle.format.specs.Mask.{flaws, has, is_asked, names_mode, format_mode, sum_of, padding_mode, padding_of, stop_value, mask_of, mask}
use Rattle.format.specs.Reader.{Named, Standing, Layout, read}
use Rattle.faults.specs.Noted.{nothing, asks, noted, sum_in}
use Rattle.front.specs.Code.{answer_of}
use Rattle.faults.proofs.SumLaws.{noted_sum, sum_fits}
use Rattle.checks.specs.Checks.{field_at}
use Rattle.validate.specs.Asked.{asked, top_at, Masked, mask_with}
use Rattle.checks.specs.Checks.{namelessly}
use Rattle.names.proofs.ReadNames.{read_ends}
use Rattle.faults.specs.declared.Modes.{Modes}
use Rattle.named.specs.Top.{top_within, Checked, top_with}
use Rattle.contents.specs.declared.Field.{Field}
use Rattle.contents.specs.Made.{field_read}
use Rattle.contents.proofs.MadeLaws.{field_same}

pub mask_long : (n : ℕ) (s : List ℕ) → length_limit < length s → (v : ℕ) → v ≡ stop_value TooLong → v ≡ mask n s
unfolding mask
mask_long n s i v e = rw (e, lt-ltb length_limit (length s) i)

-- the faults kept are those that count
sum_noted : (n : ℕ) (fs : List Flaw) → sum_in (noted (asked n) nothing fs) ≡ sum_of n fs flaws
sum_noted n fs = noted_sum (asked n) fs

padding : (n : ℕ) (s w r : List ℕ) → s ≡ w ++ r → cond (is_asked n padding_mode && ltb (length s - length r) (length s)) 4096 0 ≡ padding_of n r
padding n s w [] e = rw (le-ltb (length s - 0) (length s) (omega arith)) (at (is_asked n padding_mode))
  where
    at : (x : Bool) → ◌≡◌ {A = ℕ} (cond (x && false) 4096 0) 0
    at true = refl
    at false = refl
padding n s w (b ∷ r) e =
    let l : length s ≡ length w + length (b ∷ r) = simp length-append at (ap length e) in
    rw (lt-ltb (length s - length (b ∷ r)) (length s) (omega arith)) (at (is_asked n padding_mode))
  where
    at : (x : Bool) → ◌≡◌ {A = ℕ} (cond (x && true) 4096 0) (cond x 4096 0)
    at true = refl
    at false = refl

module _ (n : ℕ) (s : List ℕ) (short : length s ≤ length_limit) (x : Result Field Stop) (field : x ≡ top_at n s) where
  within : mask n s ≡ mask_of n (read depth_limit Top s)
  unfolding mask
  within = rw (le-ltb length_limit (length s) short)

  pub mask_stop : (j : Stop) → x ≡ Err j → (v : ℕ) → v ≡ stop_value j → v ≡ mask n s
  unfolding field_at
  mask_stop j i v k = k ∙ sym (within ∙ at (read depth_limit Top s) (sym i ∙ field))
    where
      at : (o : Out (Named (Standing (Layout depth_limit))))
          → Err j ≡ answer_of Err (λ x h r. field_read x.1.0 (length s - length r) h) (asked n) nothing o → mask_of n o ≡ stop_value j
      at (fault l) z = let y : j ≡ l = cc in rw y
      at (got y fs r) z = clash cc

  -- the sum has its place in 32 bits, with 4096 beside it
  pub mask_fits : (p : Field) → x ≡ Ok p → (u : ℕ) → u ≡ sum_in p.faults → u ≤ 2032
  unfolding field_at
  mask_fits p i u j = rw j (at (read depth_limit Top s) (sym i ∙ field))
    where
      at : (o : Out (Named (Standing (Layout depth_limit))))
          → Ok p ≡ answer_of Err (λ x h r. field_read x.1.0 (length s - length r) h) (asked n) nothing o → sum_in p.faults ≤ 2032
      at (fault l) z = clash cc
      at (got y fs r) z =
          let same = field_same p (field_read y.1.0 (length s - length r) (noted (asked n) nothing fs)) z in
          rw (same.2, noted_sum (asked n) fs) (sum_fits (λ f. asks (asked n) f && has f fs))

  pub mask_read : (p : Field) → x ≡ Ok p → (b₃ : Bool) → b₃ ≡ is_asked n padding_mode → (u v : ℕ) → u ≡ sum_in p.faults
      → v ≡ cond (b₃ && ltb p.end (length s)) 4096 0
      → u + v ≡ mask n s
  unfolding field_at
  mask_read p i b₃ i₃ u v j₁ j₂ = rw (j₁, j₂, i₃) (sym (within ∙ at (read depth_limit Top s) refl (sym i ∙ field)))
    where
      at : (o : Out (Named (Standing (Layout depth_limit)))) → read depth_limit Top s ≡ o
          → Ok p ≡ answer_of Err (λ x h r. field_read x.1.0 (length s - length r) h) (asked n) nothing o
          → mask_of n o ≡ sum_in p.faults + cond (is_asked n padding_mode && ltb p.end (length s)) 4096 0
      at (fault l) z y = clash cc
      at (got y fs r) z w =
          let same = field_same p (field_read y.1.0 (length s - length r) (noted (asked n) nothing fs)) w in
          let t = read_ends depth_limit Top s z in
          rw (same.2, same.1, sum_noted n fs, padding n s t.0 r t.1)

-- ---- the top field's check

-- names are not asked about
pub top_nameless : (n : ℕ) (s : List ℕ) (g : Faults) → g ≡ nothing → (b₂ : Bool) → b₂ ≡ is_asked n format_mode → (l : ℕ) → l ≡ depth_limit
    → is_asked n names_mode ≡ false → (x : Result Field Stop) → x ≡ field_at Top (namelessly b₂) l g s → x ≡ top_at n s
top_nameless n s g i₀ b₂ i₂ l i₁ e x h = rw (i₀, i₁, i₂, ← e) at h

-- they are
pub top_named : (n : ℕ) (s : List ℕ) → length s ≤ length_limit → (m : Modes) → m ≡ asked n → (x : Result Field Stop) → x ≡ top_within m s → x ≡ top_at n s
unfolding top_within
top_named n s short m e x h = rw (e, le-ltb length_limit (length s) short) at h

pub asked_is : (n : ℕ) (b c : Bool) → b ≡ is_asked n names_mode → c ≡ is_asked n format_mode → ◌≡◌ {A = Modes} (record { names = b; format = c }) (asked n)
asked_is n b c e f = rw (e, f)

pub not_asked : (n : ℕ) (o : Bool) → o ≡ is_asked n names_mode → o ≡ false → is_asked n names_mode ≡ false
not_asked n o e h = sym e ∙ h

-- ---- with a table

pub top_with_law : (n : ℕ) (s t : List ℕ) → length s ≤ length_limit → (m : Modes) → m ≡ asked n → (x : Result Field Stop) (t' : List ℕ)
    → ◌≡◌ {A = Checked} (record { answer = x; table = t' }) (top_with m s t) → x ≡ top_at n s
unfolding top_with
top_with_law n s t short m e x t' h = top_named n s short m e x (ap (λ z. z.answer) h)

-- the table was cleared by the check, or by the call
pub cleared_with : (n : ℕ) (s t : List ℕ) (r : ℕ) → r ≡ mask n s → (m : Modes) (x : Result Field Stop) (t' : List ℕ)
    → ◌≡◌ {A = Checked} (record { answer = x; table = t' }) (top_with m s t) → ◌≡◌ {A = Masked} (record { answer = r; table = t' }) (mask_with n s t)
unfolding mask_with top_with
cleared_with n s t r e m x t' h = let z : t' ≡ replicate (length t) 0 = ap (λ z. z.table) h in rw (e, z)

pub cleared : (n : ℕ) (s t : List ℕ) (r : ℕ) → r ≡ mask n s → (t' : List ℕ) → t' ≡ replicate (length t) 0
    → ◌≡◌ {A = Masked} (record { answer = r; table = t' }) (mask_with n s t)
unfolding mask_with
cleared n s t r e t' h = rw (e, h)

pub ruleset laws = (mask_long, not_asked, top_named)

pub ruleset with_laws = (mask_long, not_asked, top_with_law, cleared, cleared_with)
