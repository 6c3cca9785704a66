-- The names of the frames of an object that stand in a part one after another, and where each stands. What is inside a frame is passed over.
use Rattle.std.specs.Prelude.{ℕ, zero, suc, ◌-◌, true, List, [], ◌∷◌, length, drop, Option, None, Some}
use Rattle.std.proofs.Math.Option.{Option as Optional}
use Rattle.format.specs.declared.Kind.{Kind}
use Rattle.format.specs.declared.Stop.TheVariants.{Early, Unknown, TooDeep}
use Rattle.format.specs.Parse.{Out, fault, got}
use Rattle.format.specs.Names.{read_name}
use Rattle.frames.specs.FramePieces.{writable}
use Rattle.twins.specs.Walk.{onward}
use Rattle.passing.specs.Pass.{pass_over}
use Rattle.names.specs.declared.Name.{Name}
use Rattle.names.specs.Made.{name_met}

-- ---- one frame

abbrev pub name_known : Option Kind → List ℕ → Out (List ℕ)
name_known None s = fault Unknown
name_known (Some k) s = read_name s

-- the name of the frame at s, with d levels left, if its kind is writable and its name can be read
unfoldable pub name_of : ℕ → List ℕ → Out (List ℕ)
name_of zero s = fault TooDeep
name_of (suc d) [] = fault Early
name_of (suc d) (b ∷ s) = name_known (writable b) s

-- ---- all of them

-- a frame that cannot be passed over is the last
abbrev pub names_from : Out (List ℕ) → Optional (List ℕ) → (List ℕ → List (List ℕ)) → List (List ℕ)
names_from (fault k) o more = []
names_from (got n fs q) o more = n ∷ onward [] o more

-- the number bounds how many there are, and the length is enough
unfoldable pub names_until : ℕ → ℕ → List ℕ → List (List ℕ)
names_until d zero s = []
names_until d (suc n) s = names_from (name_of d s) (pass_over d true s) (λ r. names_until d n r)

abbrev pub frame_names : ℕ → List ℕ → List (List ℕ)
frame_names d s = names_until d (length s) s

-- ---- where they stand

-- in a part of `total` bytes: where the name begins and ends, and where the next frame stands, or the part's end
abbrev pub name_in : ℕ → Out (List ℕ) → Optional (List ℕ) → Option Name
name_in total (fault k) o = None
name_in total (got n fs q) o = name_met (total - length q - length n) (total - length q) (onward total o λ r. total - length r)

-- the name of the frame at a position
unfoldable pub name_at : ℕ → ℕ → List ℕ → Option Name
name_at d a s = name_in (length s) (name_of d (drop a s)) (pass_over d true (drop a s))
