use borrow.Author.Rules.{rules}
use Rattle.format.specs.declared.Kind.TheVariants.{Null, Object, UniformObject, Array, UniformArray, Binary, String, IntegerPositive, IntegerNegative}
use Rattle.format.specs.declared.Kind.TheVariants.{Float32, Float64, False, True, ObjectAttachment, BinaryAttachment, Hash, Uuid, DateTime, TimeSpan}
use Rattle.format.specs.declared.Kind.TheVariants.{ObjectId, CustomById, CustomByName}
use Rattle.format.proofs.KindLaws.{known_is, known_none}
use Rattle.format.proofs.known_of.Goals as goal

pub returns-in-1 : goal.returns-in-1
returns-in-1 c = search (known_is, rules)

pub returns-in-2 : goal.returns-in-2
returns-in-2 c = search (known_is, rules)

pub returns-in-3 : goal.returns-in-3
returns-in-3 c = search (known_is, rules)

pub returns-in-4 : goal.returns-in-4
returns-in-4 c = search (known_is, rules)

pub returns-in-5 : goal.returns-in-5
returns-in-5 c = search (known_is, rules)

pub returns-in-6 : goal.returns-in-6
returns-in-6 c = search (known_is, rules)

pub returns-in-7 : goal.returns-in-7
returns-in-7 c = search (known_is, rules)

pub returns-in-8 : goal.returns-in-8
returns-in-8 c = search (known_is, rules)

pub returns-in-9 : goal.returns-in-9
returns-in-9 c = search (known_is, rules)

pub returns-in-10 : goal.returns-in-10
returns-in-10 c = search (known_is, rules)

pub returns-in-11 : goal.returns-in-11
returns-in-11 c = search (known_is, rules)

pub returns-in-12 : goal.returns-in-12
returns-in-12 c = search (known_is, rules)

pub returns-in-13 : goal.returns-in-13
returns-in-13 c = search (known_is, rules)

pub returns-in-14 : goal.returns-in-14
returns-in-14 c = search (known_is, rules)

pub returns-in-15 : goal.returns-in-15
returns-in-15 c = search (known_is, rules)

pub returns-in-16 : goal.returns-in-16
returns-in-16 c = search (known_is, rules)

pub returns-in-17 : goal.returns-in-17
returns-in-17 c = search (known_is, rules)

pub returns-in-18 : goal.returns-in-18
returns-in-18 c = search (known_is, rules)

pub returns-in-19 : goal.returns-in-19
returns-in-19 c = search (known_is, rules)

pub returns-in-20 : goal.returns-in-20
returns-in-20 c = search (known_is, rules)

pub returns-in-30 : goal.returns-in-30
returns-in-30 c = search (known_is, rules)

pub returns-in-31 : goal.returns-in-31
returns-in-31 c = search (known_is, rules)

pub returns-in_default : goal.returns-in_default
returns-in_default c =
    known_none _ (elim [
      | Null ↦ λ e. c.in_default.in_default-own.rest.0.0.0.0.0.0.0.0.0.0.0.0.0.0.0.0.0.0.0.0.0.1 e
      | Object ↦ λ e. c.in_default.in_default-own.rest.0.0.0.0.0.0.0.0.0.0.0.0.0.0.0.0.0.0.0.0.1 e
      | UniformObject ↦ λ e. c.in_default.in_default-own.rest.0.0.0.0.0.0.0.0.0.0.0.0.0.0.0.0.0.0.0.1 e
      | Array ↦ λ e. c.in_default.in_default-own.rest.0.0.0.0.0.0.0.0.0.0.0.0.0.0.0.0.0.0.1 e
      | UniformArray ↦ λ e. c.in_default.in_default-own.rest.0.0.0.0.0.0.0.0.0.0.0.0.0.0.0.0.0.1 e
      | Binary ↦ λ e. c.in_default.in_default-own.rest.0.0.0.0.0.0.0.0.0.0.0.0.0.0.0.0.1 e
      | String ↦ λ e. c.in_default.in_default-own.rest.0.0.0.0.0.0.0.0.0.0.0.0.0.0.0.1 e
      | IntegerPositive ↦ λ e. c.in_default.in_default-own.rest.0.0.0.0.0.0.0.0.0.0.0.0.0.0.1 e
      | IntegerNegative ↦ λ e. c.in_default.in_default-own.rest.0.0.0.0.0.0.0.0.0.0.0.0.0.1 e
      | Float32 ↦ λ e. c.in_default.in_default-own.rest.0.0.0.0.0.0.0.0.0.0.0.0.1 e
      | Float64 ↦ λ e. c.in_default.in_default-own.rest.0.0.0.0.0.0.0.0.0.0.0.1 e
      | False ↦ λ e. c.in_default.in_default-own.rest.0.0.0.0.0.0.0.0.0.0.1 e
      | True ↦ λ e. c.in_default.in_default-own.rest.0.0.0.0.0.0.0.0.0.1 e
      | ObjectAttachment ↦ λ e. c.in_default.in_default-own.rest.0.0.0.0.0.0.0.0.1 e
      | BinaryAttachment ↦ λ e. c.in_default.in_default-own.rest.0.0.0.0.0.0.0.1 e
      | Hash ↦ λ e. c.in_default.in_default-own.rest.0.0.0.0.0.0.1 e
      | Uuid ↦ λ e. c.in_default.in_default-own.rest.0.0.0.0.0.1 e
      | DateTime ↦ λ e. c.in_default.in_default-own.rest.0.0.0.0.1 e
      | TimeSpan ↦ λ e. c.in_default.in_default-own.rest.0.0.0.1 e
      | ObjectId ↦ λ e. c.in_default.in_default-own.rest.0.0.1 e
      | CustomById ↦ λ e. c.in_default.in_default-own.rest.0.1 e
      | CustomByName ↦ λ e. c.in_default.in_default-own.rest.1 e
    ])
