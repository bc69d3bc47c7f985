mod GatherLaws
mod SeenLaws
