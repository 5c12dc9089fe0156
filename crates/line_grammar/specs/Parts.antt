-- What code hands out of a command's parts.
use Rattle.line_grammar.specs.declared.parts.Parts.{Parts}
use Rattle.line_grammar.specs.declared.parts.Parts.TheVariants as part
use Rattle.line_grammar.specs.Slots.{Filling, Put, Nothing, OneNumber, OnePlace, TwoPlaces, OneName}
use Rattle.line_grammar.specs.Slots.{NameAndPlaces, NameAndLists, Operation, Question, Measure, Definition, SomeNames}
use Rattle.line_grammar.specs.Slots.{TwoLists, KeyedNames}

-- the values that they are
abbrev pub seen : Parts → Filling
seen part.Nothing = Put Nothing tt
seen (part.OneNumber n) = Put OneNumber n
seen (part.OnePlace p) = Put OnePlace p.now
seen (part.TwoPlaces p q) = Put TwoPlaces (p.now, q.now)
seen (part.OneName n) = Put OneName n.now
seen (part.NameAndPlaces n ps) = Put NameAndPlaces (n.now, ps.now)
seen (part.NameAndLists n ls) = Put NameAndLists (n.now, ls.now)
seen (part.Operation op a b) = Put Operation (op, (a.now, b.now))
seen (part.Question p a b) = Put Question (p, (a.now, b.now))
seen (part.Measure m a b) = Put Measure (m, (a.now, b.now))
seen (part.Definition n op a b) = Put Definition (n.now, (op, (a.now, b.now)))
seen (part.SomeNames ns) = Put SomeNames ns.now
seen (part.TwoLists a b) = Put TwoLists (a.now, b.now)
seen (part.KeyedNames ks) = Put KeyedNames ks.now
