pub use Rattle.bench_world.specs.Worlds
