-- A text that the front end refuses; a program whose sites are refused; and one that is accepted.
use Rattle.std.proofs.Common.{refl}
use Rattle.c_syntax.specs.View.{unit_shape}
use Rattle.c_tables.specs.Tables.{tables_shape}
use Rattle.c_lex.specs.declared.lexer.TextKind.TheVariants.{Plain}
use Rattle.atac_programs.specs.Programs.{by_front, by_sites}
use Rattle.atac_programs.proofs.Reading.{refused_at, sites_refused}
use Rattle.atac_programs.proofs.checking.check.Goals as goal

pub returns-in-Err-At : goal.returns-in-Err-At
returns-in-Err-At c = by_front c.in-Err-At.number c.in-Err-At.pos (refused_at Plain c.args.text.now _ _ _ c.in-Err-At.field-0-is c.in-Err-At.ensures.read) c.in_ok-said-in-Err-At.ensures

pub returns-in-Ok-sites : goal.returns-in-Ok-sites
returns-in-Ok-sites c =
    let p = c.in-Ok.program in
    record {
      program = refl;
      accepted = record { unit = unit_shape p.unit; tables = tables_shape p.tables; read = c.in-Ok.ensures.read; clean = c.in-Ok-sites.ensures.clean };
      lists = c.in-Ok-sites.ensures.numbered.lists;
      sites = c.in-Ok-sites.ensures;
    }

pub returns : goal.returns
returns c =
    let p = c.in-Ok.program in
    by_sites (unit_shape p.unit) (tables_shape p.tables) c.in-Err-At-sites.number c.in-Err-At-sites.pos c.in-Ok.ensures.read
    (sites_refused p _ _ _ c.in-Err-At-sites.field-0-is c.in-Err-At-sites.ensures) c.in_ok-said-in-Err-At-sites.ensures
