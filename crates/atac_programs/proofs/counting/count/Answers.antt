-- A text that the front end refuses; a program whose sites are refused; and one that is accepted.
use Rattle.std.proofs.Common.{refl, ap, ◌∙◌}
use Rattle.c_syntax.specs.View.{unit_shape}
use Rattle.c_tables.specs.Tables.{tables_shape}
use Rattle.c_lex.specs.declared.lexer.TextKind.TheVariants.{Plain}
use Rattle.atac_programs.specs.Programs.{by_front, by_sites, counts_of, counts_text}
use Rattle.atac_programs.specs.Understanding.{counts_told}
use Rattle.atac_programs.proofs.Reading.{refused_at, sites_refused}
use Rattle.atac_programs.proofs.counting.count.Goals as goal

pub returns-in-Err-At : goal.returns-in-Err-At
returns-in-Err-At c = by_front c.in-Err-At.number c.in-Err-At.pos (refused_at Plain c.args.text.now _ _ _ c.in-Err-At.field-0-is c.in-Err-At.ensures.read) c.in_ok-said-in-Err-At.ensures

pub returns-in-Ok-count : goal.returns-in-Ok-count
returns-in-Ok-count c =
    let p = c.in-Ok.program in
    let t = tables_shape p.tables in
    let u = unit_shape p.unit in
    record {
      counts = counts_of t u;
      counted = record { accepted = record { unit = u; tables = t; read = c.in-Ok.ensures.read; clean = c.in-Ok-count.ensures.clean }; counts = refl };
      says = c.in_ok-line_of-in-Ok-count.ensures ∙ ap (λ n. counts_text (counts_told n)) c.in-Ok-count.ensures.are;
    }

pub returns : goal.returns
returns c =
    let p = c.in-Ok.program in
    by_sites (unit_shape p.unit) (tables_shape p.tables) c.in-Err-At-count.number c.in-Err-At-count.pos c.in-Ok.ensures.read
    (sites_refused p _ _ _ c.in-Err-At-count.field-0-is c.in-Err-At-count.ensures) c.in_ok-said-in-Err-At-count.ensures
