-- What is known of an expression, wherever its type lies in memory.
use Rattle.c_type_rules.specs.Kinds.{type_in}
use Rattle.c_tree.specs.Sorts as sorts
use Rattle.c_checker.specs.declared.sort.Sort.{Sort}
use Rattle.c_checker.specs.declared.sort.Typing.{Typing}

abbrev pub sort_of : Sort → sorts.Sort
sort_of s = record { kind = type_in s.kind; constant = s.constant; place = s.place }

abbrev pub typing_of : Typing → sorts.Typing
typing_of t = record { sort = sort_of t.sort; names = t.names; valued = t.valued }
