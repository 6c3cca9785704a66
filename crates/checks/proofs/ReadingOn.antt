-- Fields read one after another: those behind, with their flaws, and what is still to be read, make the whole.
use Prim.Native.Nat.{ℕ}
use mathlib.Core.Path.{◌≡◌, refl, sym, ap}
use mathlib.Core.Bool.{Bool, true, false}
use mathlib.Core.List.{List, [], ◌∷◌, ◌++◌, append_assoc}
use Rattle.format.specs.declared.Stop.{Stop}
use Rattle.faults.specs.declared.Modes.{Modes}
use Rattle.faults.specs.declared.Faults.{Faults}
use Rattle.format.specs.Kinds.{id}
use Rattle.format.specs.declared.Flaw.{Flaw}
use Rattle.format.specs.Parse.{Out, fault, got, with_flaws, bind, raise}
use Rattle.format.specs.Reader.{Standing, Named, Layout, kinds_in}
use Rattle.faults.specs.Noted.{noted, flaw_if}
use Rattle.format.proofs.Local.{with_put}
use Rattle.faults.proofs.NotedLaws.{noted_none, noted_more}
use Rattle.run.specs.Run.{shared, run_of, join}
use Rattle.run.proofs.RunLaws.{run_snoc}

-- ---- flaws that were raised

pub nil : {A : Type 0} (xs : List A) → xs ++ [] ≡ xs
nil [] = refl
nil (x ∷ xs) = ap (λ l. x ∷ l) (nil xs)

pub with_fault : {A : Type 0} (fs : List Flaw) (k : Stop) → with_flaws {A = A} fs (fault k) ≡ fault k
with_fault [] k = refl
with_fault (f ∷ fs) k = refl

pub raised : {A : Type 0} (b : Bool) (f : Flaw) (x : A) (es : List Flaw) (r : List ℕ) → raise b f (got x es r) ≡ got x (flaw_if b f ++ es) r
raised true f x es r = refl
raised false f x es r = refl

-- ---- reading on

abbrev pub Read : ℕ → Type 0
Read d = Named (Standing (Layout d))

-- with the fields xs and their flaws behind it, a loop still has `rest` to read, and that makes `all`
pub record Sofar (m : Modes) (d : ℕ) (g : Faults) (all rest : Out (List (Read d))) (h : Faults) (u : ℕ) : Type 0 where
  pub xs : List (Read d)
  pub fs : List Flaw
  pub makes : all ≡ with_flaws fs (bind rest λ ys q. got (xs ++ ys) [] q)
  pub met : h ≡ noted m g fs
  pub run : u ≡ run_of (kinds_in xs)

kinds_snoc : {A : Type 0} (xs : List (Named (Standing A))) (y : Named (Standing A)) → kinds_in (xs ++ (y ∷ [])) ≡ kinds_in xs ++ (y.1.0 ∷ [])
kinds_snoc [] y = refl
kinds_snoc (x ∷ xs) y = ap (λ l. x.1.0 ∷ l) (kinds_snoc xs y)

module _ (m : Modes) (d : ℕ) (g : Faults) where
  pub sofar_start : (all : Out (List (Read d))) → Sofar m d g all all g 0
  unfolding shared
  sofar_start all = record { xs = []; fs = []; makes = at all; met = sym (noted_none m g); run = refl }
    where
      at : (o : Out (List (Read d))) → o ≡ bind o λ ys q. got ys [] q
      at (fault k) = refl
      at (got a fs r) = rw (with_put fs [] a r, nil fs)

  module _ (all rest : Out (List (Read d))) (h : Faults) (u : ℕ) (z : Sofar m d g all rest h u) where
    pub sofar_fault : (k : Stop) → rest ≡ fault k → all ≡ fault k
    sofar_fault k e = rw (z.makes, e) (with_fault z.fs k)

    pub sofar_stop : (r : List ℕ) → rest ≡ got [] [] r → all ≡ got z.xs z.fs r
    sofar_stop r e = rw (z.makes, e, nil z.xs, with_put z.fs [] z.xs r, nil z.fs)

    pub sofar_step : (y : Read d) (gs : List Flaw) (more : Out (List (Read d))) → rest ≡ with_flaws gs (bind more λ ys q. got (y ∷ ys) [] q)
        → Sofar m d g all more (noted m h gs) (join u (id y.1.0))
    sofar_step y gs more e = record {
      xs = z.xs ++ (y ∷ []);
      fs = z.fs ++ gs;
      makes = rw (z.makes, e) (at more);
      met = rw z.met (noted_more m g z.fs gs);
      run = rw (z.run, kinds_snoc z.xs y) (sym (run_snoc (kinds_in z.xs) y.1.0));
    }
      where
        at : (o : Out (List (Read d))) → with_flaws z.fs (bind (with_flaws gs (bind o λ ys q. got (y ∷ ys) [] q)) λ ys q. got (z.xs ++ ys) [] q)
            ≡ with_flaws (z.fs ++ gs) (bind o λ ys q. got ((z.xs ++ (y ∷ [])) ++ ys) [] q)
        at (fault k) = rw (with_fault {A = List (Read d)} gs k, with_fault {A = List (Read d)} z.fs k, with_fault {A = List (Read d)} (z.fs ++ gs) k)
        at (got a hs q) =
            rw (
              with_put hs [] (y ∷ a) q,
              with_put gs (hs ++ []) (y ∷ a) q,
              with_put (gs ++ (hs ++ [])) [] (z.xs ++ (y ∷ a)) q,
              with_put z.fs ((gs ++ (hs ++ [])) ++ []) (z.xs ++ (y ∷ a)) q,
              with_put hs [] ((z.xs ++ (y ∷ [])) ++ a) q,
              with_put (z.fs ++ gs) (hs ++ []) ((z.xs ++ (y ∷ [])) ++ a) q,
              nil (gs ++ (hs ++ [])),
              append_assoc z.xs (y ∷ []) a,
              append_assoc z.fs gs (hs ++ []),
            )
