-- The lists, wherever their parts lie in memory.
use Rattle.std.specs.Prelude.{map}
use Rattle.c_sites.specs.declared.lists.Decision as code_decision
use Rattle.c_sites.specs.declared.lists.DefSite as code_def
use Rattle.c_sites.specs.declared.lists.UseSite as code_use
use Rattle.c_sites.specs.declared.lists.Lists as code_lists
use Rattle.c_sites.specs.Kinds.{Decision, DefSite, UseSite}
use Rattle.c_sites.specs.Lists.{Lists}

abbrev pub decision_shape : code_decision.Decision → Decision
decision_shape d = record { pos = d.pos; labels = d.labels }

abbrev pub def_shape : code_def.DefSite → DefSite
def_shape d = record { pos = d.pos; function = d.function; variable = d.variable; names = d.names }

abbrev pub use_shape : code_use.UseSite → UseSite
use_shape u = record { pos = u.pos; function = u.function; variable = u.variable; name = u.name; names = u.names; owner = u.owner }

abbrev pub lists_shape : code_lists.Lists → Lists
lists_shape l = record {
  blocks = l.blocks.items;
  decisions = map decision_shape l.decisions.items;
  defs = map def_shape l.defs.items;
  uses = map use_shape l.uses.items;
}
