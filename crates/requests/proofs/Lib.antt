mod Progresses
